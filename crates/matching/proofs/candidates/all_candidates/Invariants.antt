use Rattle.matching.proofs.Prepare.{Preparing}
use Rattle.matching.proofs.candidates.all_candidates.Given as goal

abbrev pub invariant-loop-j : goal.invariant-loop-j
invariant-loop-j l = Preparing l.rows l.atoms l.orders l.start l.count l.initial.out l.j l.out l.counts
