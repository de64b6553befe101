-- `invent::seed_node` meets its contract: the predicates below p are done. Assumes nothing.
use native.Mathlib.Omega.{arith}
use Rattle.invent.proofs.Marks.{marks_for, upto_again}
use Rattle.core_lists.proofs.Origin.{next_predicate}
use Rattle.invent.proofs.seed_node.Goals as goal

pub loop-p-preserved : goal.loop-p-preserved
loop-p-preserved c = let a = c.args in
    let l = c.loop-p in
    let m = c.seed_edge-at in
    let d = c.demands_of-row.ensures in (
      next_predicate a.core.now.triples.now a.subject m.result l.p m.ensures.1,
      upto_again l.invariant.1 (marks_for (λ P h. d P.setting h l.p (omega arith)) (m.ensures.0 a.mask)),
    )
