use Rattle.matching.proofs.Marked.{Marking}
use Rattle.matching.proofs.marks.mark.Given as goal

abbrev pub invariant-loop-v : goal.invariant-loop-v
invariant-loop-v l = Marking l.initial.marks l.own l.v-index l.marks
