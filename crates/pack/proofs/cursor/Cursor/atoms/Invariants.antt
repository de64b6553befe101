use Rattle.pack.proofs.RuleReading.{Atoms}
use Rattle.pack.proofs.cursor.Cursor.atoms.Given as goal

abbrev pub invariant-loop : goal.invariant-loop
invariant-loop l = Atoms l.initial.c l.n l.counter l.c
