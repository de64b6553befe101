use Rattle.matching.proofs.RowKey.{Keying}
use Rattle.matching.proofs.candidates.row_key.Given as goal

abbrev pub invariant-loop-c : goal.invariant-loop-c
invariant-loop-c l = Keying l.rows l.at l.order l.cols l.start l.c l.key

abbrev pub decreases-loop-c : goal.decreases-loop-c
decreases-loop-c l = l.c
