-- The triple key of one match: none for a type, one for a link. Assumes nothing.
use borrow.Author.Tests.{eq-eqb, ne_eqb}
use Rattle.std.specs.Prelude.{◌≡◌, ℕ, ◌+◌, ◌*◌, ◌<◌, ◌≤◌, ◌↔◌, List, [], ◌∷◌, length}
use mathlib.Core.List.Memᴰ
use Rattle.core_graph.proofs.Growing.{grown_start}
use Rattle.core_graph.specs.Collected.{Grown, object_key, subject_key, triple_keys}
use Rattle.core_graph.specs.Heads.{kind_number, named_number}
use Rattle.spread.specs.Keys.{triple_key}
use Rattle.meaning.specs.Limits.{place_room, predicate_room}
use Rattle.meaning.specs.Member.{◌∈◌, here}
use Rattle.meaning.specs.Ordered.{InOrder}
use Rattle.sets.proofs.Slices.{same_start}
use Rattle.sets.specs.Ordered.{rank_of}
use Rattle.sets.specs.OrderedSet.{OrderedSet, members_of}

module _ (nodes head : List ℕ) (k : ℕ) where
  pub no_triple : kind_number head ≡ 0 → triple_keys nodes head k ≡ []
  unfolding triple_keys
  no_triple e = rw (eq-eqb (kind_number head) 0 e)

  pub link_triple : (kind_number head ≡ 0 → ⊥)
      → triple_keys nodes head k ≡ triple_key (rank_of (subject_key head k) nodes) (named_number head) (rank_of (object_key head k) nodes) ∷ []
  unfolding triple_keys
  link_triple n = rw (ne_eqb (kind_number head) 0 n)

  none : {y : ℕ} → kind_number head ≡ 0 → ¬ (y ∈ triple_keys nodes head k)
  none e m = elim (rw (no_triple e) at m) [ ]

  pub type_triples : kind_number head ≡ 0 → (a : OrderedSet) → a.count ≤ length a.keys → InOrder ◌<◌ (members_of a) → Grown (λ y. y ∈ triple_keys nodes head k) a a
  type_triples e a l o = (grown_start a.count a.keys l o (λ y. none e), same_start)

  -- the key as code makes it
  pub link_triples : (kind_number head ≡ 0 → ⊥) → {s o : ℕ} → s ≡ rank_of (subject_key head k) nodes → o ≡ rank_of (object_key head k) nodes
      → (y : ℕ) → (y ≡ (s * predicate_room + named_number head) * place_room + o) ↔ (y ∈ triple_keys nodes head k)
  unfolding triple_key
  link_triples n e f y = rw (link_triple n, e, f) (here, Memᴰ.eq_of_singleton)
