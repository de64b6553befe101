-- What a leaf joins, backward by the triples by object. Assumes nothing.
use mathlib.Core.List.{List}
use mathlib.Core.Path.{ap, refl, ◌∙◌, ◌≡◌}
use native.Mathlib.Omega.{arith}
use Prim.Native.Nat.{ℕ, ◌%◌, ◌*◌, ◌+◌, ◌/◌, ◌<◌}
use Rattle.backward.specs.Steps.{LeafBack}
use Rattle.index.proofs.Stands.{stands_triple}
use Rattle.index.specs.Objects.{ByObject}
use Rattle.index.specs.Triples.{predicate_at}
use Rattle.meaning.specs.Limits.{max_predicates}
use Rattle.states.proofs.Leaves.{LeafJoins, goes, is_at, rests}
use Rattle.states.specs.Lists.{Lists}
use Rattle.states.specs.Parts.{takes}
use Rattle.states.specs.State.{state}

module _ {L : Lists} {starts into : List ℕ} {kind want i m : ℕ} (b : ByObject L.triples L.nodes L.edges starts into) (l : m < L.nodes) where
  pub back_joins : {y : ℕ} → LeafBack starts into kind want i m y → (n : ℕ) × (y ≡ state i n) × LeafJoins L kind want n m
  back_joins (LeafBack.stays e s) = (m, s, rests e l refl)
  back_joins (LeafBack.steps g r s) =
      let t = stands_triple b m l s.stands in
      (s.number / max_predicates, s.subject.state, goes g r t.at t.inside t.subject t.object (ap (λ p. takes kind want p) t.predicate ∙ s.subject.taken))
  back_joins (LeafBack.labels g r e s) = (m, s, is_at g r l e refl)

  pub joins_back : {n y : ℕ} → LeafJoins L kind want n m → y ≡ state i n → LeafBack starts into kind want i m y
  joins_back {n} {y} (rests e h p) s = LeafBack.stays e (s ∙ ap (λ x. state i x) p)
  joins_back {n} {y} (goes g r k lt e o t) s =
      let (h, x) = (b.exactly n (predicate_at L.triples k) m l).0 (record { at = k; inside = lt; subject = e; predicate = refl; object = o }) in
      let u : (n * max_predicates + predicate_at L.triples k) % max_predicates ≡ predicate_at L.triples k = omega arith in
      let v : n ≡ (n * max_predicates + predicate_at L.triples k) / max_predicates = omega arith in
      LeafBack.steps g r (record {
        number = n * max_predicates + predicate_at L.triples k;
        stands = x;
        subject = record { taken = ap (λ q. takes kind want q) u ∙ t; state = s ∙ ap (λ z. state i z) v };
      })
  joins_back {n} {y} (is_at g r h w p) s = LeafBack.labels g r (w ∙ p) (s ∙ ap (λ x. state i x) p)
