use Rattle.spelling.proofs.MatchedAt.{Matching}
use Rattle.spelling.proofs.compare.segment_end.Given as goal

abbrev pub invariant-loop-b : goal.invariant-loop-b
invariant-loop-b l = Matching l.value l.text l.at l.b-index l.to
