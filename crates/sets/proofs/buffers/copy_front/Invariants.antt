use Rattle.sets.proofs.Copy.{Copied}
use Rattle.sets.proofs.buffers.copy_front.Given as goal

abbrev pub invariant-loop-i : goal.invariant-loop-i
invariant-loop-i l = Copied l.n l.i l.src l.initial.dst l.dst
