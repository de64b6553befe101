-- The edges of one subject and predicate, and the order of edges. Assumes nothing.
use borrow.Author.Tests.{eqb-true}
use lib.Dec.{T, eqb}
use lib.ListN.{drop, drop_of_length-le, get_or, length, length-map, take}
use lib.Seq.{drop-cons}
use mathlib.Core.Bool.{Bool, true, false, cond}
use mathlib.Core.List.Memᴰ.{map as ∈-map}
use mathlib.Core.List.{List, [], ◌∷◌, map, flatten}
use mathlib.Core.Path.{◌≡◌, refl, sym, ap, subst, subst₂, ◌∙◌}
use native.Mathlib.Numerals.{add-one}
use native.Mathlib.Omega.{arith}
use Prim.Native.Nat.{ℕ, min, suc, zero, ◌+◌, ◌*◌, ◌-◌, ◌%◌, ◌<◌, ◌≤◌}
use Rattle.spread.specs.Keys.{object_of, origin_at, origin_of, subject_of}
use Rattle.invent.specs.Invent.{OfDemand, number_of}
use Rattle.node_list.specs.Records.{SetsFit, overwritten}
use Rattle.triple_list.specs.Triples.{EdgeFrom, NodeEdge, RecordsListed, SubjectEdge, edge_record, edge_records, gotten, present}
use Rattle.triple_list.proofs.GroupLaws.{group_between}
use Rattle.triple_list.proofs.ListedLaws.{listed_iff, listed_none}
use Rattle.invent.proofs.Marks.{leads_there, only}
use Rattle.core_lists.proofs.Origin.{group_in, group_only, keys_all, keys_le, keys_mono, keys_next, origin_none, origin_some}
use Rattle.core_lists.proofs.Shaped.{requires_shape}
use Rattle.core_lists.specs.Origin.{group, HasOrigin, keys_before}
use Rattle.meaning.proofs.Lists.Members.{∈_map⁻¹}
use Rattle.meaning.proofs.Lists.OrderedPlaces.{greater_later}
use Rattle.meaning.proofs.Lists.Places.{∈_at}
use Rattle.meaning.specs.Limits.{max_core_triples, max_iris, max_predicates, max_triples, type_sets}
use Rattle.meaning.specs.Member.{◌∈◌, here, there}
use Rattle.meaning.specs.Ordered.{InOrder, ◌≺◌, before, empty, equal, less}
use Rattle.meaning.specs.Pack.{Pack}
use Rattle.shapes.specs.Demands.{required_in, targets_in}

-- ---- room: each origin has the core's edges, or one more

module _ (ks : List ℕ) (s p triple at first from : ℕ) (h : p < max_predicates) (l : triple + from ≤ first + p + at)
    (room : first + max_predicates + keys_before (origin_at s max_predicates) ks ≤ max_triples + from) where
  pub origin_room : triple + keys_before (origin_at s p + 1) ks + 1 ≤ max_triples + at
  origin_room = let m = keys_mono (origin_at s p + 1) (origin_at s max_predicates) (omega arith) ks in omega arith

  pub origin_number : at ≡ keys_before (origin_at s p) ks → triple ≤ max_triples
  origin_number e = let m = keys_mono (origin_at s p) (origin_at s max_predicates) (omega arith) ks in omega arith

module _ (ks : List ℕ) (few : length ks ≤ max_core_triples) (s triple at : ℕ) (l : triple ≤ s * max_predicates + at) where
  pub iri_room : s < max_iris → triple + max_predicates + keys_before (origin_at s max_predicates) ks ≤ max_triples + at
  iri_room h = let k = keys_le (origin_at s max_predicates) ks in omega arith

  pub iri_end : s ≤ max_iris → at ≡ keys_before (origin_at s 0) ks → triple ≤ max_core_triples + max_iris * max_predicates
  iri_end h e = let k = keys_le (origin_at s 0) ks in omega arith

-- an invented subject has none of the core's
pub none_of : (triples : List ℕ) (node : ℕ) → ((k : ℕ) → k ∈ triples → subject_of k < node) → length triples ≡ keys_before (origin_at node 0) triples
none_of triples node h = sym (keys_all (origin_at node 0) triples (λ k i. let s = h k i in omega arith))

-- The number of the set before place i, or 0: nodes that have edges come after it.
unfoldable pub last_before : List ℕ → ℕ → ℕ
last_before sets zero = 0
last_before sets (suc i) = get_or sets i 0

module _ {sets : List ℕ} (f : SetsFit sets) where
  last_next : (i : ℕ) → i < length sets → last_before sets i + min 1 (get_or sets i 0) ≤ get_or sets i 0
  unfolding last_before
  last_next zero h = omega arith
  last_next (suc i) h = let a = greater_later sets f.ascend i (suc i) (omega arith) h in omega arith

  last_below : (i : ℕ) → i ≤ length sets → last_before sets i < type_sets
  unfolding last_before
  last_below zero h = omega arith
  last_below (suc i) h = f.below (get_or sets i 0) (∈_at sets i h)

  -- each has at most one edge for a predicate
  pub set_room : (i next first : ℕ) → i < length sets → next ≤ first + last_before sets i * max_predicates → next + max_predicates ≤ first + (type_sets - 1) * max_predicates
  set_room i next first h l = let a = last_next i h in let b = f.below (get_or sets i 0) (∈_at sets i h) in omega arith

  pub set_after : (i next r first : ℕ) → i < length sets → next ≤ first + last_before sets i * max_predicates → r ≤ next + min 1 (get_or sets i 0) * max_predicates
      → r ≤ first + last_before sets (i + 1) * max_predicates
  unfolding last_before
  set_after i next r first h l m = let a = last_next i h in let e : last_before sets (i + 1) ≡ get_or sets i 0 = ap (last_before sets) (add-one i) in omega arith

  pub sets_end : (i next first : ℕ) → i ≤ length sets → next ≤ first + last_before sets i * max_predicates → next ≤ first + (type_sets - 1) * max_predicates
  sets_end i next first h l = let b = last_below i h in omega arith

-- ---- order

module _ {P : Pack} {triples places : List ℕ} where
  edge_form : {s mask p : ℕ} {x : List ℕ} → EdgeFrom P triples places s mask p x → (o : ℕ) × (x ≡ s ∷ p ∷ o ∷ [])
  edge_form (present k m e q) = (object_of k, q)
  edge_form (gotten j l q) = (get_or places (j % type_sets) 0, q)

  pub by_predicate : {s mask p r : ℕ} → p < r → (x y : List ℕ) → EdgeFrom P triples places s mask p x → EdgeFrom P triples places s mask r y → x ≺ y
  by_predicate h x y e f = let a = edge_form e in let b = edge_form f in subst₂ ◌≺◌ (sym a.1) (sym b.1) (equal refl (less h))

  pub by_subject : {s t m n : ℕ} → s < t → (x y : List ℕ) → SubjectEdge P triples places s m x → SubjectEdge P triples places t n y → x ≺ y
  by_subject h x y e f = let a = edge_form e.holds in let b = edge_form f.holds in subst₂ ◌≺◌ (sym a.1) (sym b.1) (less h)

-- ---- the core's edges

edges_ascend : (s p : ℕ) (ks : List ℕ) → InOrder ◌<◌ ks → InOrder ◌≺◌ (edge_records s p ks)
unfolding group
edges_ascend s p [] a = empty
edges_ascend s p (k ∷ ks) (before f a) = go (eqb (origin_of k) (origin_at s p)) refl (edges_ascend s p ks a)
  where
    above : origin_of k ≡ origin_at s p → (y : List ℕ) → y ∈ edge_records s p ks → edge_record s p k ≺ y
    above e y m =
        let r = ∈_map⁻¹ (edge_record s p) (group (origin_at s p) ks) m in
        let g = group_only (origin_at s p) ks r.0 r.1 in
        let l = f r.0 g.0 in
        let o = g.1 in
        let h : object_of k < object_of r.0 = omega arith in
        subst (λ z. edge_record s p k ≺ z) (sym r.2) (equal refl (equal refl (less h)))

    go : (b : Bool) → eqb (origin_of k) (origin_at s p) ≡ b → InOrder ◌≺◌ (edge_records s p ks)
        → InOrder ◌≺◌ (map (edge_record s p) (cond b (k ∷ group (origin_at s p) ks) (group (origin_at s p) ks)))
    go true e i = before (above (eqb-true (origin_of k) (origin_at s p) e)) i
    go false e i = i

-- the loop that writes them
pub edge_next : (s p : ℕ) (ks : List ℕ) (i : ℕ) → i < length ks → map (edge_record s p) (drop i ks) ≡ edge_record s p (get_or ks i 0) ∷ map (edge_record s p) (drop (i + 1) ks)
edge_next s p ks i h = rw (drop-cons ks i 0 h, add-one i) refl

pub edge_end : (s p : ℕ) (ks : List ℕ) (i : ℕ) → length ks ≤ i → map (edge_record s p) (drop i ks) ≡ []
edge_end s p ks i h = rw (drop_of_length-le ks h) refl

edges_flat : (s p : ℕ) (ks : List ℕ) → length (flatten (map (edge_record s p) ks)) ≡ length (map (edge_record s p) ks) * 3
unfolding flatten
edges_flat s p [] = refl
edges_flat s p (k ∷ ks) = let r = edges_flat s p ks in omega arith

module _ (demand : ℕ) (triples places : List ℕ) (a : InOrder ◌<◌ triples) (s p from first : ℕ)
    (f : from ≡ keys_before (origin_at s p) triples) (out : List ℕ) (at : ℕ) (passed : at ≡ keys_before (origin_at s p + 1) triples) where
  -- what stands from triple `first` on, for every set that demands this
  abbrev Listed : List ℕ → ℕ → Type 0
  Listed out' r = (mask : ℕ) → RecordsListed (OfDemand mask p demand) (λ P. EdgeFrom P triples places s mask p) first out out' r

  -- there are some
  pub origin_present : (at ≡ from → ⊥) → (out₁ : List ℕ) → out₁ ≡ overwritten (first * 3) (flatten (map (edge_record s p) (take (at - from) (drop from triples)))) out
      → Listed out₁ (first + (at - from)) × (first + (at - from) + from ≤ first + 1 + at) × (at ≡ keys_before (origin_at s p + 1) triples)
  origin_present n out₁ w = (
    λ mask. record {
      records = edge_records s p triples;
      are = λ P h. record {
        ascending = edges_ascend s p triples a;
        members = λ x. (
          λ m. let r = ∈_map⁻¹ (edge_record s p) (group (origin_at s p) triples) m in let g = group_only (origin_at s p) triples r.0 r.1 in present r.0 g.0 g.1 r.2,
          back mask P x,
        );
      };
      long = edges_flat s p (group (origin_at s p) triples);
      count = let n = length-map (group (origin_at s p) triples) (edge_record s p) in omega (arith, many);
      written = w ∙ ap (λ ks. overwritten (first * 3) (flatten (map (edge_record s p) ks)) out) (group_between triples a (origin_at s p) from at f passed);
    },
    omega (arith, many),
    passed,
  )
    where
      many : at ≡ from + length (group (origin_at s p) triples)
      many = let k = keys_next (origin_at s p) triples in omega arith

      back : (mask : ℕ) (P : Pack) (x : List ℕ) → EdgeFrom P triples places s mask p x → x ∈ edge_records s p triples
      back mask P x (present k m o q) = subst (λ y. y ∈ edge_records s p triples) (sym q) (∈-map (edge_record s p) (group_in (origin_at s p) m o))
      back mask P x (gotten j l q) = absurd (l.none (origin_some triples (origin_at s p) from at f passed n))

  -- there are none
  module _ (n : at ≡ from) where
    no_origin : ¬ HasOrigin triples (origin_at s p)
    no_origin = origin_none triples (origin_at s p) from at f passed n

    pub origin_free : required_in demand ≡ false → Listed out first × (first + from ≤ first + 1 + from) × (from ≡ keys_before (origin_at s p + 1) triples)
    origin_free f = (λ mask. listed_none first out (none mask), omega arith, sym n ∙ passed)
      where
        none : (mask : ℕ) (P : Pack) → OfDemand mask p demand P → (x : List ℕ) → ¬ EdgeFrom P triples places s mask p x
        none mask P h x (present k m o q) = no_origin (record { key = k; listed = m; is = o })
        none mask P h x (gotten j l q) = subst T f (h.needs.1 ((requires_shape P mask p).1 l.leads.needs))

    pub origin_gets : required_in demand ≡ true → (m : ℕ) → m ≡ targets_in demand → (out₂ : List ℕ)
        → out₂ ≡ overwritten (first * 3) (s ∷ p ∷ get_or places (m % type_sets) 0 ∷ []) out
        → Listed out₂ (first + 1) × (first + 1 + from ≤ first + 1 + at) × (at ≡ keys_before (origin_at s p + 1) triples)
    unfolding flatten
    origin_gets t m is out₂ w = (
      λ mask. record {
        records = (s ∷ p ∷ get_or places (m % type_sets) 0 ∷ []) ∷ [];
        are =
            λ P h. record {
              ascending = before {x = s ∷ p ∷ get_or places (m % type_sets) 0 ∷ []} {xs = []} (λ y i. elim i [ ]) empty;
              members = λ x. (forth mask P h x, λ q. here (back mask P h x q));
            };
        long = refl;
        count = refl;
        written = w;
      },
      omega arith,
      passed,
    )
      where
        same_mask : number_of (targets_in demand) % type_sets ≡ m % type_sets
        same_mask = omega (arith, is)

        forth : (mask : ℕ) (P : Pack) → OfDemand mask p demand P → (x : List ℕ) → x ∈ ((s ∷ p ∷ get_or places (m % type_sets) 0 ∷ []) ∷ []) → EdgeFrom P triples places s mask p x
        forth mask P h x (here q) =
            gotten (number_of (targets_in demand)) (record { none = no_origin; leads = leads_there P h t }) (q ∙ ap (λ (j : ℕ). s ∷ p ∷ get_or places j 0 ∷ []) (sym same_mask))
        forth mask P h x (there i) = elim i [ ]

        back : (mask : ℕ) (P : Pack) → OfDemand mask p demand P → (x : List ℕ) → EdgeFrom P triples places s mask p x → x ≡ s ∷ p ∷ get_or places (m % type_sets) 0 ∷ []
        back mask P h x (present k i o q) = absurd (no_origin (record { key = k; listed = i; is = o }))
        back mask P h x (gotten j l q) = q ∙ ap (λ (i : ℕ). s ∷ p ∷ get_or places i 0 ∷ []) (ap (λ i. i % type_sets) (only P h j l.leads) ∙ same_mask)

-- ---- the edges of an invented node

module _ {These : Pack → Type 0} {triples places : List ℕ} {node types first : ℕ} where
  pub node_none : (out : List ℕ) → types ≡ 0 → RecordsListed These (NodeEdge triples places node types) first out out first × (first ≤ first + min 1 types * max_predicates)
  node_none out n = (listed_none first out (λ P h x e. let s = e.some_type in omega arith), omega arith)

  pub node_some : {out out' : List ℕ} {r : ℕ} → 0 < types → RecordsListed These (λ P. SubjectEdge P triples places node types) first out out' r
      → RecordsListed These (NodeEdge triples places node types) first out out' r
  node_some s l = listed_iff (λ P x. (λ e. record { some_type = s; edge = e }, λ (e : NodeEdge triples places node types P x). e.edge)) l

pub by_set : {triples places : List ℕ} {m n s t : ℕ} {P : Pack} → m < n → (x y : List ℕ) → NodeEdge triples places m s P x → NodeEdge triples places n t P y → x ≺ y
by_set h x y e f = by_subject h x y e.edge f.edge
