use Rattle.forward.proofs.Owning.{Owning}
use Rattle.forward.proofs.own.own_from.Given as goal

abbrev pub invariant-loop-k : goal.invariant-loop-k
invariant-loop-k l = Owning l.triples l.named l.lo l.hi l.initial.own l.own l.k l.end
