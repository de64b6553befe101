-- The core has over 512 IRIs exactly if so many of its keys are below the first literal's. Assumes nothing.
use Rattle.std.specs.Prelude.{◌≡◌, ℕ, ◌+◌, ◌<◌, ◌≤◌, List, [], length, take}
use lib.ListN.{length-take}
use mathlib.Core.Path.{refl, ap}
use native.Mathlib.Omega.{arith}
use Rattle.core_graph.proofs.DistinctKeys.{Proper, core_proper, iri_low, key_injective, literal_key}
use Rattle.core_graph.specs.Bounds.{Bounded}
use Rattle.core_graph.specs.CoreHeld.{NodeKey}
use Rattle.spread.specs.Keys.{key_of}
use Rattle.meaning.specs.Core.{CoreNode, Node, iri_node, literal_node}
use Rattle.meaning.specs.Limits.{first_literal, max_iris, max_values}
use Rattle.meaning.specs.Member.{◌∈◌}
use Rattle.meaning.specs.NoGraph.{CoreIri}
use Rattle.meaning.specs.Ordered.{InOrder, ListOf, Over}
use Rattle.meaning.specs.Pack.{Pack}
use Rattle.sets.proofs.Rank.{low_in, low_part, most_low, rank_le}
use Rattle.sets.specs.Ordered.{rank_of}
use Rattle.meaning.proofs.Lists.SetLists.{in_order_take}
use Rattle.meaning.proofs.Lists.Members.{take_in}
use Rattle.meaning.proofs.Lists.Counting.{listed_over, over_by, pigeonhole}
use Rattle.meaning.proofs.Lists.Ordered.{<_strict}
use native.Mathlib.Nat.{le_refl}

module _ {P : Pack} (b : Bounded P) where
  abbrev iri_key : ℕ × List ℕ → ℕ
  iri_key t = key_of (iri_node t.0 t.1)

  -- a key below the first literal's is an IRI's
  is_iri : (k : ℕ) → NodeKey P k → k < first_literal → (t : ℕ × List ℕ) × CoreIri P t × (k ≡ iri_key t)
  is_iri k n h = go n.node n.in_core n.is
    where
      go : (m : Node) → CoreNode P m → k ≡ key_of m → (t : ℕ × List ℕ) × CoreIri P t × (k ≡ iri_key t)
      go (iri_node c vs) i e = ((c, vs), i, e)
      go (literal_node v) i e = absurd (omega (arith, literal_key v, e))

  pub iris_over : (ks : List ℕ) → InOrder ◌<◌ ks → ((k : ℕ) → k ∈ ks → NodeKey P k) → max_iris < rank_of first_literal ks → Over max_iris (CoreIri P)
  iris_over ks a h l =
      let low = take (rank_of first_literal ks) ks in
      over_by iri_key (CoreIri P) max_iris (le_refl max_iris) (λ k m. is_iri k (h k (take_in (rank_of first_literal ks) m)) (low_part first_literal ks k m))
      (listed_over <_strict {xs = low} (in_order_take (rank_of first_literal ks) a) (λ k m. m) (omega (arith, length-take (rank_of first_literal ks) ks, rank_le first_literal ks)))

  key_high : (k : ℕ) → NodeKey P k → k < first_literal + max_values
  key_high k n = go n.node n.is (core_proper b n.in_core)
    where
      go : (m : Node) → k ≡ key_of m → Proper P m → k < first_literal + max_values
      go (iri_node c vs) e p = omega (arith, iri_low c vs p, e)
      go (literal_node v) e p = omega (arith, literal_key v, e, p)

  -- a list too long for IRIs that are not too many and a literal a value
  pub many_over : (ks : List ℕ) → InOrder ◌<◌ ks → ((k : ℕ) → k ∈ ks → NodeKey P k) → max_iris + max_values < length ks → Over max_iris (CoreIri P)
  many_over ks a h l = iris_over ks a h (omega (arith, most_low first_literal max_values ks a (λ k m. key_high k (h k m))))

  pub iris_within : (ks : List ℕ) → ListOf ◌<◌ (NodeKey P) ks → rank_of first_literal ks ≤ max_iris → ¬ Over max_iris (CoreIri P)
  iris_within ks l h o =
      let r = pigeonhole iri_key o.some (take (rank_of first_literal ks) ks) o.differ place one in
      omega (arith, r, length-take (rank_of first_literal ks) ks, o.over)
    where
      place : (t : ℕ × List ℕ) → t ∈ o.some → iri_key t ∈ take (rank_of first_literal ks) ks
      place t m =
          let c = o.members t m in
          low_in first_literal ks (iri_key t) l.ascending ((l.members (iri_key t)).1 (record { node = iri_node t.0 t.1; in_core = c; is = refl }))
          (iri_low t.0 t.1 (core_proper b c))

      one : (t u : ℕ × List ℕ) → t ∈ o.some → u ∈ o.some → iri_key t ≡ iri_key u → t ≡ u
      one t u m k e =
          let q = key_injective P (iri_node t.0 t.1) (iri_node u.0 u.1) (core_proper b (o.members t m)) (core_proper b (o.members u k)) e in
          ap parts q
        where
          parts : Node → ℕ × List ℕ
          parts (iri_node c vs) = (c, vs)
          parts (literal_node v) = (v, [])
