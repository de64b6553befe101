use lib.ListN.{length}
use mathlib.Core.Path.{◌≡◌}
use Prim.Native.Nat.{◌+◌, ◌≤◌}
use Rattle.spread.specs.Keys.{origin_at}
use Rattle.invent.specs.Invent.{OfTable, Upto}
use Rattle.triple_list.specs.Triples.{EdgeFrom, RecordsListed}
use Rattle.core_lists.specs.Origin.{keys_before}
use Rattle.triple_list.proofs.Source.list_subject.Given as goal

abbrev pub invariant-loop-p : goal.invariant-loop-p
invariant-loop-p l = (length l.out ≡ length l.initial.out) × (l.next.triple + l.initial.next.at ≤ l.initial.next.triple + l.p + l.next.at)
    × (l.next.at ≡ keys_before (origin_at l.subject l.p) l.self.core.triples.now)
    × RecordsListed (OfTable l.self.demands.now) (λ P. Upto (EdgeFrom P l.self.core.triples.now l.self.places.now l.subject l.mask) l.p) l.initial.next.triple l.initial.out l.out l.next.triple
