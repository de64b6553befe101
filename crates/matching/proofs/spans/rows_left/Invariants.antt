use Rattle.matching.proofs.Bounds.{Bounds}
use Rattle.matching.proofs.spans.rows_left.Given as goal

abbrev pub invariant-loop-c : goal.invariant-loop-c
invariant-loop-c l = Bounds l.own l.env l.c l.low l.high

abbrev pub decreases-loop-c : goal.decreases-loop-c
decreases-loop-c l = l.c
