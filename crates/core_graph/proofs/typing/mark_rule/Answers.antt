-- `core_graph::typing::mark_rule` meets its contract: those of the matches so far. Assumes nothing.
use native.Mathlib.Omega.{arith}
use Rattle.core_graph.proofs.Marking.{marks_start, marks_again, marks_done}
use Rattle.meaning.proofs.Lists.Places.{∈_at}
use Rattle.core_graph.proofs.typing.mark_rule.Goals as goal

pub loop-k-init : goal.loop-k-init
loop-k-init c = marks_start _ _ _

pub mark_match-near-requires : goal.mark_match-near-requires
mark_match-near-requires c = let m = ∈_at c.args.keys.now c.loop-k.k-index (omega arith) in
    (c.requires.0, c.requires.1 _ m, c.requires.2, c.requires.3 _ m, omega (arith, c.loop-k.invariant.long))

pub loop-k-preserved : goal.loop-k-preserved
loop-k-preserved c = let loop = c.loop-k in
    let a = c.mark_match-near in
    marks_again loop.invariant (omega arith) _ a.ensures a.auto.masks

pub returns : goal.returns
returns c = marks_done c.loop-k.invariant (omega arith)
