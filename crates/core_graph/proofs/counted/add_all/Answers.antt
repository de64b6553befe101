-- `core_graph::counted::add_all` meets its contract: the keys of the rules so far. Assumes nothing.
use borrow.Author.Rules.{rules}
use native.Mathlib.Omega.{arith}
use Rattle.std.specs.Prelude.{◌<◌}
use Rattle.std.proofs.lemmas.Result.{err_from_is_err_and}
use Rattle.core_graph.proofs.Loops.{rules_start, rules_again, rules_full, rules_done}
use Rattle.core_graph.proofs.counted.add_all.Goals as goal

pub loop-r-init : goal.loop-r-init
loop-r-init g c = (search rules, rules_start _ _ _ _ _ c.args.set.now.fits c.args.set.now.ascending)

pub offset_bounds-heads-r : goal.offset_bounds-heads-r
offset_bounds-heads-r g c = omega (arith, c.args.heads.now.fit.few)

pub bounds-heads-r : goal.bounds-heads-r
bounds-heads-r g c = omega (arith, c.args.heads.now.fit.few)

pub add_rule-requires : goal.add_rule-requires
add_rule-requires g c = let l = c.loop-r in
    let fit = c.args.heads.now.fit in
    let h : l.r < c.args.heads.now.count = omega arith in
    (c.requires, fit.fits l.r h, rw c.keys_of.ensures (fit.keys l.r h))

pub returns-in_err-add_rule : goal.returns-in_err-add_rule
returns-in_err-add_rule g c = rw (err_from_is_err_and c.from_residual.result c.from_residual.ensures.1).1 (rules_full c.loop-r.invariant.1 (omega arith) (rw c.keys_of.ensures at c.in_err-add_rule.ensures))

pub loop-r-preserved : goal.loop-r-preserved
loop-r-preserved g c = (omega arith, rules_again c.loop-r.invariant.1 _ (rw c.keys_of.ensures at c.in_ok-add_rule.ensures))

pub returns : goal.returns
returns g c = rules_done c.loop-r.invariant.1 (omega arith)
