use Rattle.matching.proofs.FirstColumn.{Seated}
use Rattle.matching.proofs.candidates.columns.Given as goal

abbrev pub invariant-loop-i : goal.invariant-loop-i
invariant-loop-i l = Seated l.own l.vars l.i l.cols
