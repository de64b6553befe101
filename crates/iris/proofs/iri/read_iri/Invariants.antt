use Rattle.iris.proofs.IriRead.{Trying}
use Rattle.iris.proofs.iri.read_iri.Given as goal

abbrev pub invariant-loop-c : goal.invariant-loop-c
invariant-loop-c l = Trying l.pack l.text l.c
