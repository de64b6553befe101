use Rattle.depends.proofs.Keying.{Keying}
use Rattle.depends.proofs.key.Given as goal

abbrev pub invariant-loop-c : goal.invariant-loop-c
invariant-loop-c l = Keying l.rows l.mask l.first l.key l.rest l.c
