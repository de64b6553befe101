use Rattle.spelling.proofs.Written.{Writing}
use Rattle.spelling.proofs.write.write_segment.Given as goal

abbrev pub invariant-loop-b : goal.invariant-loop-b
invariant-loop-b l = Writing l.value l.at l.initial.dst l.b-index l.to l.dst
