-- The core has over 1,024 triples exactly if they have so many keys. Assumes nothing.
use Rattle.meaning.specs.Tables.{head_numbers}
use Rattle.std.specs.Prelude.{◌≡◌, ℕ, ◌<◌, ◌≤◌, ◌⊎◌, ◌↔◌, List, [], length, take}
use lib.ListN.{get_elem?, length-take}
use mathlib.Core.Logic.Iff
use mathlib.Core.Logic.{inr}
use mathlib.Core.Option.{some-injective}
use mathlib.Core.Path.{refl, sym, ap, ap₂, ◌∙◌, subst}
use native.Mathlib.Omega.{arith}
use Rattle.core_graph.proofs.DistinctKeys.{core_proper, key_injective}
use Rattle.core_graph.proofs.Sources.{sources}
use Rattle.core_graph.proofs.TripleSources.{at_rank, rank_at, triple_sources}
use Rattle.core_graph.specs.Bounds.{Bounded, HeadFits, HeadsFit}
use Rattle.core_graph.specs.Collected.{Beyond, FromRules, SetGrown, triple_keys}
use Rattle.core_graph.specs.Heads.{HeadsHeld}
use Rattle.core_graph.specs.CoreHeld.{NodeKey, TripleKey}
use Rattle.spread.specs.Keys.{key_of, triple_key}
use Rattle.core_graph.specs.Outcomes.{TripleKeysListed}
use Rattle.meaning.proofs.Lists.Places.{inside, placed}
use Rattle.meaning.proofs.Lists.SetLists.{list_as}
use Rattle.meaning.specs.Core.{CoreEdge, CoreNode, Node, as_object, as_subject, head_fact, triple}
use Rattle.meaning.specs.Limits.{max_core_nodes, max_core_triples, max_predicates, place_room, predicate_room}
use Rattle.meaning.specs.Member.{◌∈◌}
use Rattle.meaning.specs.NoGraph.{CoreTriple}
use Rattle.meaning.specs.Ordered.{ListOf, Over}
use Rattle.meaning.specs.Pack.{Head, Pack, has_type, links_to, links_to_value}
use Rattle.sets.proofs.Rank.{rank_le}
use Rattle.sets.specs.Ordered.{rank_of}
use Rattle.meaning.proofs.Lists.Members.{only_new}
use Rattle.meaning.proofs.Lists.Counting.{listed_over, over_by, pigeonhole}
use Rattle.meaning.proofs.Lists.Ordered.{<_strict}
use native.Mathlib.Nat.{le_refl}

-- a key's parts
parts_one : (s p o s' p' o' : ℕ) → p < predicate_room → p' < predicate_room → o < place_room → o' < place_room → triple_key s p o ≡ triple_key s' p' o'
    → (s ≡ s') × (p ≡ p') × (o ≡ o')
unfolding triple_key
parts_one s p o s' p' o' a b c d e = (omega arith, omega arith, omega arith)

-- the triple keys that the heads give
abbrev Triples : List ℕ → List (List ℕ) → ℕ → List ℕ → List ℕ → ℕ → Type 0
Triples nodes rules count heads counts = FromRules (λ head k y. y ∈ triple_keys nodes head k) rules count heads counts

module _ {rules : List (List ℕ)} {count : ℕ} {heads counts : List ℕ} (fit : HeadsFit rules count heads counts) (nodes : List ℕ)
    (few : length nodes ≤ max_core_nodes) where
  module _ (P : Pack) (h : HeadsHeld P rules count heads counts) (b : Bounded P) (l : ListOf ◌<◌ (NodeKey P) nodes) where
    triple_iff : (y : ℕ) → ((y ∈ []) ⊎ Triples nodes rules count heads counts y) ↔ TripleKey P nodes y
    triple_iff y = (λ s. all.0 (only_new s), λ t. inr (all.1 t))
      where
        all : Triples nodes rules count heads counts y ↔ TripleKey P nodes y
        all = Iff.trans (sources h (λ head k x. x ∈ triple_keys nodes head k) y) (triple_sources nodes b l y)

    triple_list : {m : ℕ} {d d' : List ℕ} → SetGrown (Triples nodes rules count heads counts) 0 m d d' → ListOf ◌<◌ (TripleKey P nodes) (take m d')
    triple_list g = list_as triple_iff g.list

    abbrev keyed : Node × ℕ × Node → ℕ
    keyed t = triple_key (rank_of (key_of t.0) nodes) t.1 (rank_of (key_of t.2) nodes)

    named : (k : ℕ) → TripleKey P nodes k → (t : Node × ℕ × Node) × CoreTriple P t × (k ≡ keyed t)
    named k t = (
      (t.from, t.predicate, t.to),
      t.edge,
      t.is
          ∙ ap₂ (λ s o. triple_key s t.predicate o) (sym (rank_at (key_of t.from) nodes t.subject l.ascending t.from_at))
          (sym (rank_at (key_of t.to) nodes t.object l.ascending t.to_at)),
    )

    pub triples_beyond : {k : ℕ} → k ≡ max_core_triples → Beyond k (λ y. (y ∈ []) ⊎ Triples nodes rules count heads counts y)
        → Over max_core_triples (CoreTriple P)
    triples_beyond e o =
        over_by keyed (CoreTriple P) max_core_triples (le_refl max_core_triples) (λ k m. named k ((triple_iff k).0 (o.members k m)))
        (listed_over <_strict o.ascending (λ k m. m) (omega (arith, o.over, e)))

    -- a triple's predicate is that of a head
    pub predicate_small : {n m : Node} {p : ℕ} → CoreEdge P n p m → p < max_predicates
    unfolding head_fact head_numbers
    predicate_small {n} {m} {p} g =
        let r = placed g.listed in
        let f : HeadFits (head_numbers g.rule.head) = rw (← h.numbers r.0 g.rule r.1) (fit.fits r.0 (omega (arith, inside P.setting.rules r.0 g.rule r.1, h.many))) in
        go g.rule.head f g.says
      where
        go : (k : Head) → HeadFits (head_numbers k) → head_fact g.values k ≡ triple n p m → p < max_predicates
        go (has_type s t) f e = absurd (let z : ◌≡◌ {A = ℕ} 0 1 = cc in omega arith)
        go (links_to s q o) f e = let z : q ≡ p = cc in subst (λ x. x < max_predicates) z f.named
        go (links_to_value s q v) f e = let z : q ≡ p = cc in subst (λ x. x < max_predicates) z f.named

    pub node_in : {n : Node} → CoreNode P n → key_of n ∈ nodes
    node_in {n} c = (l.members (key_of n)).1 (record { node = n; in_core = c; is = refl })

    -- nodes of one rank are one node
    pub rank_one : {n m : Node} → CoreNode P n → CoreNode P m → rank_of (key_of n) nodes ≡ rank_of (key_of m) nodes → n ≡ m
    rank_one {n} {m} c d e =
        key_injective P n m (core_proper b c) (core_proper b d)
        (some-injective (key_of n) (key_of m)
        (sym (at_rank (key_of n) nodes l.ascending (node_in c)) ∙ ap (get_elem? nodes) e ∙ at_rank (key_of m) nodes l.ascending (node_in d)))

    keyed_one : (t u : Node × ℕ × Node) → CoreTriple P t → CoreTriple P u → keyed t ≡ keyed u → t ≡ u
    keyed_one t u g k e =
        let q = parts_one (rank_of (key_of t.0) nodes) t.1 (rank_of (key_of t.2) nodes) (rank_of (key_of u.0) nodes) u.1 (rank_of (key_of u.2) nodes)
        (omega (arith, predicate_small g)) (omega (arith, predicate_small k)) (omega (arith, rank_le (key_of t.2) nodes, few))
        (omega (arith, rank_le (key_of u.2) nodes, few)) e in
        let s = rank_one (as_subject g) (as_subject k) q.0 in
        let o = rank_one (as_object g) (as_object k) q.2 in
        λ i. (s i, q.1 i, o i)

    triples_within : (ks : List ℕ) → ListOf ◌<◌ (TripleKey P nodes) ks → length ks ≤ max_core_triples → ¬ Over max_core_triples (CoreTriple P)
    triples_within ks t n o =
        let r = pigeonhole keyed o.some ks o.differ place (λ x z i j. keyed_one x z (o.members x i) (o.members z j)) in
        omega (arith, r, o.over)
      where
        place : (x : Node × ℕ × Node) → x ∈ o.some → keyed x ∈ ks
        place x i =
            let g = o.members x i in
            (t.members (keyed x)).1 (record {
              subject = rank_of (key_of x.0) nodes;
              predicate = x.1;
              object = rank_of (key_of x.2) nodes;
              from = x.0;
              to = x.2;
              from_at = at_rank (key_of x.0) nodes l.ascending (node_in (as_subject g));
              to_at = at_rank (key_of x.2) nodes l.ascending (node_in (as_object g));
              edge = g;
              is = refl;
            })

  pub triples_listed : {m : ℕ} {d d' : List ℕ} → SetGrown (Triples nodes rules count heads counts) 0 m d d' → length d' ≡ max_core_triples
      → TripleKeysListed m nodes rules count heads counts d d'
  triples_listed {m} {d' = d'} g k = record {
    grown = g;
    list = λ P h b l. triple_list P h b l g;
    within = λ P h b l. triples_within P h b l (take m d') (triple_list P h b l g) (omega (arith, length-take m d', g.fits, k));
  }
