use lib.ListN.{length}
use mathlib.Core.Path.{◌≡◌}
use Prim.Native.Nat.{◌+◌, ◌*◌, ◌≤◌}
use Rattle.invent.specs.Invent.{OfTable, Upto}
use Rattle.triple_list.specs.Triples.{RecordsListed, SetEdge}
use Rattle.triple_list.proofs.EdgeLaws.{last_before}
use Rattle.meaning.specs.Limits.{max_predicates}
use Rattle.triple_list.proofs.Source.list_sets.Given as goal

abbrev pub invariant-loop-i : goal.invariant-loop-i
invariant-loop-i l = (length l.out ≡ length l.initial.out) × (l.next ≤ l.first + last_before l.sets l.i * max_predicates)
    × RecordsListed (OfTable l.self.demands.now) (λ P. Upto (SetEdge l.self.core.triples.now l.sets l.self.places.now (length l.self.core.nodes.now) P) l.i) l.first l.initial.out l.out l.next
