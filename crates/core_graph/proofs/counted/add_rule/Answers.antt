-- `core_graph::counted::add_rule` meets its contract: the keys of the matches so far. Assumes nothing.
use native.Mathlib.Omega.{arith}
use Rattle.std.proofs.lemmas.Result.{err_from_is_err_and}
use Rattle.core_graph.proofs.Loops.{keys_start, keys_again, keys_full, keys_done}
use Rattle.meaning.proofs.Lists.Places.{∈_at}
use Rattle.core_graph.proofs.counted.add_rule.Goals as goal

pub loop-k-init : goal.loop-k-init
loop-k-init g c = keys_start _ _ _ c.args.set.now.fits c.args.set.now.ascending

pub add-requires : goal.add-requires
add-requires g c = let l = c.loop-k in
    (c.requires.0, c.requires.1, c.requires.2 _ (∈_at _ _ (omega arith)))

pub returns-in_err-add : goal.returns-in_err-add
returns-in_err-add g c = rw (err_from_is_err_and c.from_residual.result c.from_residual.ensures.1).1 (keys_full c.loop-k.invariant (omega arith) c.in_err-add.ensures)

pub loop-k-preserved : goal.loop-k-preserved
loop-k-preserved g c = keys_again c.loop-k.invariant (omega arith) _ c.in_ok-add.ensures

pub returns : goal.returns
returns g c = keys_done c.loop-k.invariant (omega arith)
