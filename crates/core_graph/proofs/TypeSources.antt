-- The masks hold the core's types: those of the heads, and what spreads along the triples. Assumes nothing.
use Rattle.std.specs.Prelude.{◌≡◌, ℕ, ◌<◌, ◌≤◌, ◌⊎◌, ◌↔◌, List, map, length, get_or}
use lib.ListN.{get_elem?}
use mathlib.Core.Logic.{inl, inr}
use mathlib.Core.Option.{some}
use mathlib.Core.Path.{refl, sym, ap, ◌∙◌, subst}
use native.Mathlib.Omega.{arith}
use Rattle.core_graph.proofs.NodeSources.{Fine, fine}
use Rattle.core_graph.proofs.Sources.{sources, type_subject}
use Rattle.core_graph.proofs.TripleAnswers.{node_in, predicate_small, rank_one}
use Rattle.core_graph.proofs.TripleSources.{at_rank, rank_at}
use Rattle.core_graph.specs.Bounds.{Bounded, HeadsFit}
use Rattle.core_graph.specs.Collected.{FromRules, TypesMarked, HeadType}
use Rattle.core_graph.specs.Heads.{HeadsHeld}
use Rattle.core_graph.specs.CoreHeld.{NodeKey, TripleKey}
use Rattle.spread.specs.Keys.{key_of, object_of, predicate_of, subject_of, triple_key}
use Rattle.spread.specs.Rounds.{AddedFact}
use Rattle.spread.specs.Spread.{Passed, SpreadFrom, along, held}
use Rattle.meaning.proofs.Lists.Counting.{over_carried}
use Rattle.meaning.proofs.Lists.Places.{inside}
use Rattle.meaning.proofs.Model.Resolved.{head_terms}
use Rattle.meaning.specs.Core.{Assignment, CoreNode, CoreType, Given, Node, as_object, as_subject, as_typed, given, head_fact, node_of, passed, typed}
use Rattle.meaning.specs.Limits.{max_core_nodes, place_room, predicate_room}
use Rattle.meaning.specs.Member.{here}
use Rattle.meaning.specs.Ordered.{ListOf, Over}
use Rattle.meaning.specs.Pack.{HasShape, Head, Pack, Target, has_type, links_to, links_to_value, type}
use Rattle.meaning.specs.Spreading.{SpreadFact}
use Rattle.meaning.specs.Tables.{packed, set_of_mask, head_arguments, head_numbers}
use Rattle.meaning.specs.TypeSet.{◌∈ₜ◌}
use Rattle.sets.proofs.Rank.{rank_le}
use Rattle.sets.specs.Ordered.{rank_of}
use Rattle.shapes.proofs.Sets.{none_in}
use Rattle.shapes.specs.Shapes.{Tabled}

-- ---- the type fact of a head

module _ (nodes : List ℕ) (σ : Assignment) where
  fact_of : (k : Head) → Fine σ k → (i : ℕ) (R : Target) → HeadType nodes (head_numbers k) (packed (map σ (head_arguments k))) (i, R)
      → (n : Node) × (head_fact σ k ≡ typed n R) × (i ≡ rank_of (key_of n) nodes)
  unfolding head_fact head_numbers head_terms
  fact_of (has_type s t) f i R g =
      (node_of σ s, ap (typed (node_of σ s)) (sym g.is), g.place ∙ ap (λ x. rank_of x nodes) (type_subject σ s (f.short s (here refl)) t))
  fact_of (links_to s p o) f i R g = absurd (omega (arith, g.typing))
  fact_of (links_to_value s p v) f i R g = absurd (omega (arith, g.typing))

  of_fact : (k : Head) → Fine σ k → (n : Node) (R : Target) → head_fact σ k ≡ typed n R
      → HeadType nodes (head_numbers k) (packed (map σ (head_arguments k))) (rank_of (key_of n) nodes, R)
  unfolding head_fact head_numbers head_terms
  of_fact (has_type s t) f n R e =
      let a : node_of σ s ≡ n = cc in
      let c : type t ≡ R = cc in
      record {
        typing = refl;
        place = ap (λ x. rank_of (key_of x) nodes) (sym a) ∙ ap (λ x. rank_of x nodes) (sym (type_subject σ s (f.short s (here refl)) t));
        is = sym c;
      }
  of_fact (links_to s p o) f n R e = absurd (let z : ◌≡◌ {A = ℕ} 0 1 = cc in omega arith)
  of_fact (links_to_value s p v) f n R e = absurd (let z : ◌≡◌ {A = ℕ} 0 1 = cc in omega arith)

-- a key's parts, read back
pub decoded : (s p o : ℕ) → p < predicate_room → o < place_room → (subject_of (triple_key s p o) ≡ s) × (predicate_of (triple_key s p o) ≡ p) × (object_of (triple_key s p o) ≡ o)
unfolding triple_key
decoded s p o a b = (omega arith, omega arith, omega arith)

module _ {rules : List (List ℕ)} {count : ℕ} {heads counts : List ℕ} (fit : HeadsFit rules count heads counts) (nodes : List ℕ)
    (few : length nodes ≤ max_core_nodes) (P : Pack) (h : HeadsHeld P rules count heads counts) (b : Bounded P) (l : ListOf ◌<◌ (NodeKey P) nodes)
    (triples : List ℕ) (ts : ListOf ◌<◌ (TripleKey P nodes) triples) (zero start : List ℕ) (none : (i : ℕ) → get_or zero i 0 ≡ 0)
    (marked : TypesMarked (FromRules (HeadType nodes) rules count heads counts) zero start) where
  -- what the masks hold at the start
  start_only : (i : ℕ) (R : Target) → R ∈ₜ set_of_mask (get_or start i 0) → (n : Node) × Given P (typed n R) × (i ≡ rank_of (key_of n) nodes)
  start_only i R m = go ((marked i R).0 m)
    where
      go : (R ∈ₜ set_of_mask (get_or zero i 0)) ⊎ FromRules (HeadType nodes) rules count heads counts (i, R)
          → (n : Node) × Given P (typed n R) × (i ≡ rank_of (key_of n) nodes)
      go (inl q) = absurd (none_in R (subst (λ x. R ∈ₜ set_of_mask x) (none i) q))
      go (inr f) =
          let s = (sources h (HeadType nodes) (i, R)).0 f in
          let r = fact_of nodes s.values s.rule.head (fine b s.listed s.values s.matches) i R s.gives in
          (r.0, record { rule = s.rule; listed = s.listed; values = s.values; matches = s.matches; says = r.1 }, r.2)

  start_in : (n : Node) (R : Target) → Given P (typed n R) → R ∈ₜ set_of_mask (get_or start (rank_of (key_of n) nodes) 0)
  start_in n R g =
      (marked (rank_of (key_of n) nodes) R).1
      (inr ((sources h (HeadType nodes) (rank_of (key_of n) nodes, R)).1 (record {
        rule = g.rule;
        listed = g.listed;
        values = g.values;
        matches = g.matches;
        gives = of_fact nodes g.values g.rule.head (fine b g.listed g.values g.matches) n R g.says;
      })))

  -- at each node's place
  pub start_at : (i : ℕ) (n : Node) → CoreNode P n → get_elem? nodes i ≡ some (key_of n) → (R : Target) → (R ∈ₜ set_of_mask (get_or start i 0)) ↔ Given P (typed n R)
  start_at i n c e R = (forth, λ g. subst (λ j. R ∈ₜ set_of_mask (get_or start j 0)) place (start_in n R g))
    where
      place : rank_of (key_of n) nodes ≡ i
      place = rank_at (key_of n) nodes i l.ascending e

      forth : R ∈ₜ set_of_mask (get_or start i 0) → Given P (typed n R)
      forth m =
          let r = start_only i R m in
          subst (λ x. Given P (typed x R)) (rank_one fit nodes few P h b l (as_typed r.1) c (sym r.2 ∙ sym place)) r.1

  -- ---- what spreads

  sound : {i : ℕ} {R : Target} → Passed P.setting triples start i R → (n : Node) → CoreNode P n → i ≡ rank_of (key_of n) nodes → CoreType P n R
  sound (held {i} {R} m) n c e =
      let r = start_only i R m in
      subst (λ x. CoreType P x R) (rank_one fit nodes few P h b l (as_typed r.1) c (sym r.2 ∙ e)) (given r.1)
  sound (along {k} {i} {t} {shape} {R} m q d e g) n c f =
      let x = (ts.members k).0 m in
      let s = rank_at (key_of x.from) nodes x.subject l.ascending x.from_at in
      let o = rank_at (key_of x.to) nodes x.object l.ascending x.to_at in
      let y = decoded x.subject x.predicate x.object (omega (arith, predicate_small fit nodes few P h b l x.edge))
      (omega (arith, inside nodes x.object (key_of x.to) x.to_at, few)) in
      let ys : subject_of k ≡ x.subject = ap subject_of x.is ∙ y.0 in
      let yp : predicate_of k ≡ x.predicate = ap predicate_of x.is ∙ y.1 in
      let yo : object_of k ≡ x.object = ap object_of x.is ∙ y.2 in
      let u = sound q x.from (as_subject x.edge) (ys ∙ sym s) in
      let v = passed u (subst (λ p. HasShape P.setting t p shape) yp d) x.edge in
      let w = rank_one fit nodes few P h b l (as_object x.edge) c (o ∙ sym yo ∙ sym e ∙ f) in
      subst (λ z. CoreType P z R) w (subst (CoreType P x.to) g v)

  complete : {n : Node} {R : Target} → CoreType P n R → Passed P.setting triples start (rank_of (key_of n) nodes) R
  complete (given {n} {S} g) = held (start_in n S g)
  complete (passed {n} {m} {p} {T = t} {s} c d e) =
      let y = decoded (rank_of (key_of n) nodes) p (rank_of (key_of m) nodes) (omega (arith, predicate_small fit nodes few P h b l e))
      (omega (arith, rank_le (key_of m) nodes, few)) in
      let k = triple_key (rank_of (key_of n) nodes) p (rank_of (key_of m) nodes) in
      let i = (ts.members k).1 (record {
        subject = rank_of (key_of n) nodes;
        predicate = p;
        object = rank_of (key_of m) nodes;
        from = n;
        to = m;
        from_at = at_rank (key_of n) nodes l.ascending (node_in fit nodes few P h b l (as_subject e));
        to_at = at_rank (key_of m) nodes l.ascending (node_in fit nodes few P h b l (as_object e));
        edge = e;
        is = refl;
      }) in
      along i (subst (λ x. Passed P.setting triples start x (type t)) (sym y.0) (complete c)) (subst (λ x. HasShape P.setting t x s) (sym y.1) d)
      (sym y.2) refl

  -- The types of the core's node at each place.
  pub types_at : (table : List (List ℕ)) → Tabled P.setting table → (after : List ℕ) → SpreadFrom table triples start after
      → (i : ℕ) (n : Node) → CoreNode P n → get_elem? nodes i ≡ some (key_of n) → (S : Target) → (S ∈ₜ set_of_mask (get_or after i 0)) ↔ CoreType P n S
  types_at table tab after spread i n c e S =
      let r = rank_at (key_of n) nodes i l.ascending e in (
        λ m. sound ((spread P.setting tab i S).0 m) n c (sym r),
        λ t. (spread P.setting tab i S).1 (subst (λ x. Passed P.setting triples start x S) r (complete t)),
      )

  -- ---- what spreading added

  -- whatever has a type is a node of the core
  has_node : {i : ℕ} {R : Target} → Passed P.setting triples start i R → (n : Node) × CoreNode P n × (i ≡ rank_of (key_of n) nodes)
  has_node (held {i} {R} m) = let r = start_only i R m in (r.0, as_typed r.1, r.2)
  has_node (along {k} m q d e g) =
      let x = (ts.members k).0 m in
      let o = rank_at (key_of x.to) nodes x.object l.ascending x.to_at in
      let y = decoded x.subject x.predicate x.object (omega (arith, predicate_small fit nodes few P h b l x.edge))
      (omega (arith, inside nodes x.object (key_of x.to) x.to_at, few)) in
      (x.to, as_object x.edge, e ∙ ap object_of x.is ∙ y.2 ∙ sym o)

  -- a fact that was added, at its node
  record FactAt (f : ℕ × Target) (g : Node × Target) : Type 0 where
    place : f.0 ≡ rank_of (key_of g.0) nodes
    member : f.1 ≡ g.1

  fact_one : (f f' : ℕ × Target) (g : Node × Target) → FactAt f g → FactAt f' g → f ≡ f'
  fact_one f f' g x y = λ i. ((x.place ∙ sym y.place) i, (x.member ∙ sym y.member) i)

  module _ {table : List (List ℕ)} (tab : Tabled P.setting table) {after : List ℕ} (spread : SpreadFrom table triples start after) where
    fact_at : (f : ℕ × Target) → AddedFact start after f → (g : Node × Target) × SpreadFact P g × FactAt f g
    fact_at f x =
        let q = (spread P.setting tab f.0 f.1).0 x.has in
        let (n, c, e) = has_node q in (
          (n, f.1),
          record {
            has = sound q n c e;
            not_given = λ g. x.had_not (subst (λ i. f.1 ∈ₜ set_of_mask (get_or start i 0)) (sym e) (start_in n f.1 g));
          },
          record { place = e; member = refl },
        )

    pub spread_over : {k : ℕ} → Over k (AddedFact start after) → Over k (SpreadFact P)
    spread_over = over_carried (AddedFact start after) (SpreadFact P) FactAt fact_at fact_one
