use Prim.Native.Nat.{◌≤◌}
use Rattle.index.proofs.BySubject.{Indexing}
use Rattle.index.proofs.subjects.index_subjects.Given as goal

abbrev pub invariant-loop-n : goal.invariant-loop-n
invariant-loop-n l = (l.n ≤ l.nodes) × Indexing l.triples l.edges l.initial.index l.index l.k l.n
