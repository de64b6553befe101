use Rattle.index.proofs.BySubject.{Ending}
use Rattle.index.proofs.subjects.subject_end.Given as goal

abbrev pub invariant-loop-end : goal.invariant-loop-end
invariant-loop-end l = Ending l.triples l.edges l.n l.k l.end
