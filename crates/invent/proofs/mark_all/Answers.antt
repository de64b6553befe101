-- `invent::mark_all` meets its contract: the predicates before the place are done. Assumes nothing.
use borrow.Author.Rules.{rules}
use native.Mathlib.Omega.{arith}
use Rattle.invent.proofs.Marks.{marks_for, upto_again}
use Rattle.invent.proofs.mark_all.Goals as goal

pub loop-demand-preserved : goal.loop-demand-preserved
loop-demand-preserved c = let d = c.demands_of-row.ensures in
    let l = c.loop-demand in (
      search rules,
      upto_again l.invariant.1 (marks_for (λ P h. d P.setting h l.demand-index (omega arith)) (c.mark_targets.ensures c.args.mask l.demand-index)),
    )
