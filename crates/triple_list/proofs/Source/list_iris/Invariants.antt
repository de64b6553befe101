use lib.ListN.{get_or, length}
use mathlib.Core.Path.{◌≡◌}
use Prim.Native.Nat.{◌+◌, ◌*◌, ◌≤◌}
use Rattle.spread.specs.Keys.{origin_at}
use Rattle.invent.specs.Invent.{OfTable, Upto}
use Rattle.triple_list.specs.Triples.{RecordsListed, SubjectEdge}
use Rattle.core_lists.specs.Origin.{keys_before}
use Rattle.meaning.specs.Limits.{max_predicates}
use Rattle.triple_list.proofs.Source.list_iris.Given as goal

abbrev pub invariant-loop-s : goal.invariant-loop-s
invariant-loop-s l = (length l.out ≡ length l.initial.out) × (l.next.triple ≤ l.s * max_predicates + l.next.at)
    × (l.next.at ≡ keys_before (origin_at l.s 0) l.self.core.triples.now)
    × RecordsListed (OfTable l.self.demands.now) (λ P. Upto (λ t. SubjectEdge P l.self.core.triples.now l.self.places.now t (get_or l.self.core.masks.now t 0)) l.s) 0 l.initial.out l.out l.next.triple
