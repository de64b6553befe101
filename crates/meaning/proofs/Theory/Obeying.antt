-- Where neither 10 nor 11 is true, the built graph, named, is a finite graph that obeys the pack. Assumes nothing.
use lib.Dec.{T}
use mathlib.Core.Bool.{Bool, true, false}
use mathlib.Core.List.Memᴰ
use mathlib.Core.List.Memᴰ.{map as ∈-map}
use mathlib.Core.List.{List, [], ◌∷◌, ◌++◌, map, flat_map}
use mathlib.Core.Logic.Dec
use mathlib.Core.Logic.Iff
use mathlib.Core.Logic.{◌⊎◌, ◌↔◌, inl, inr}
use mathlib.Core.Path.{◌≡◌, refl, sym, ap, ◌∙◌, subst, subst₂}
use native.Mathlib.Decide.{ℕ_discrete}
use native.Mathlib.Omega.{arith}
use Prim.Native.Nat.{ℕ}
use Rattle.meaning.proofs.Lists.Bits.{members, members_in, members_only, same_members}
use Rattle.meaning.proofs.Lists.Members.{find, joined_in, joined_only, ∈_append, ∈_map⁻¹}
use Rattle.meaning.proofs.Model.Enumeration.{BuiltTriple, Enumeration}
use Rattle.meaning.proofs.Model.Same.{same_built, same_node}
use Rattle.meaning.proofs.Model.Targets.{targets, targets_are}
use Rattle.meaning.proofs.Theory.Simulated.{built_closed, is_core}
use Rattle.meaning.specs.Built.{BuiltEdge, BuiltNode, HasCoreEdge, HasType, IsBuilt, Requires, core, from_core, in_core, invented, made}
use Rattle.meaning.specs.Certain.{Distinct}
use Rattle.meaning.specs.Core.{Fact, Given, Node, as_typed, given, head_fact, iri_node, literal_node, node_of, passed, triple, typed}
use Rattle.meaning.specs.Graph.{Edge, Graph, HasEdge, Holds, Name, Obeys, Spelling, TypeFact, Typed, is_literal, is_named, name_of, unnamed, unnamed_literal}
use Rattle.meaning.specs.Member.{◌∈◌, here, there}
use Rattle.meaning.specs.NoGraph.{NoGraph, TwoObjects, iri_literal, literal_typed, mixed_set}
use Rattle.meaning.specs.Pack.{HasShape, Head, Literal, Pack, Shape, Target, has_type, limits, links_to, links_to_value, type}
use Rattle.meaning.specs.TypeSet.{TypeSet, ◌∈ₜ◌}

module _ (P : Pack) where
  -- ---- the shapes hold along the built edges

  pub built_target : {b c : BuiltNode} {t p : ℕ} {s : Shape} → HasType P b (type t) → HasShape P.setting t p s → BuiltEdge P b p c → HasType P c s.target
  built_target h d (from_core e) = passed h d e
  built_target {t} {s} h d (made i g) = (g.targets s.target).1 (record { member = t; shape = s; has = h; declared = d; is = refl })

  pub built_one : ¬ TwoObjects P → {b c c' : BuiltNode} {t p : ℕ} {s : Shape} → HasType P b (type t) → HasShape P.setting t p s → T (limits s.multiplicity)
      → BuiltEdge P b p c → BuiltEdge P b p c' → c ≡ c'
  built_one no-two {t} {p} {s} h d l (from_core {n} {m} e) (from_core {m = m'} e') = go (same_node m m')
    where
      go : Dec (m ≡ m') → core m ≡ core m'
      go (yes q) = ap core q
      go (no q) = absurd (no-two (record { subject = n; predicate = p; first = m; second = m'; member = t; shape = s; edge₁ = e; edge₂ = e'; differ = q; has = h; declared = d; limited = l }))
  built_one no-two h d l (from_core {m} e) (made i g) = absurd (g.missing (m, e))
  built_one no-two h d l (made i g) (from_core {m} e) = absurd (g.missing (m, e))
  built_one no-two h d l (made {X} i g) (made {X = Y} i' g') = ap invented (same_members X Y (λ S. Iff.trans (g.targets S) (Iff.symm (g'.targets S))))

-- ---- names for built nodes

unfoldable pub set_name : Bool → ℕ → Name
set_name true k = unnamed_literal k
set_name false k = unnamed k

-- An invented node takes its type set's number.
unfoldable pub built_name : Spelling → BuiltNode → Name
built_name σ (core n) = name_of σ n
built_name σ (invented X) = set_name X.literal X.mask

set_name_one : (a b : Bool) (k l : ℕ) → set_name a k ≡ set_name b l → (a ≡ b) × (k ≡ l)
unfolding set_name
set_name_one true true k l e = (refl, cc)
set_name_one true false k l e = (cc, cc)
set_name_one false true k l e = (cc, cc)
set_name_one false false k l e = (refl, cc)

pub core_named : (σ : Spelling) (n : Node) → T (is_named (name_of σ n))
core_named σ (iri_node c vs) = tt
core_named σ (literal_node v) = tt

pub set_unnamed : (a : Bool) (k : ℕ) → T (is_named (set_name a k)) → ⊥
unfolding set_name
set_unnamed true k h = h
set_unnamed false k h = h

set_literal : (a : Bool) (k : ℕ) → T (is_literal (set_name a k)) ↔ T a
unfolding set_name
set_literal true k = (λ h. h, λ h. h)
set_literal false k = (λ h. h, λ h. h)

-- a rule's head never has a literal for its subject
not_literal : (ρ : ℕ → ℕ) (h : Head) (v p : ℕ) (m : Node) → head_fact ρ h ≡ triple (literal_node v) p m → ⊥
unfolding head_fact node_of
not_literal ρ (has_type s t) v p m e = let z : ◌≡◌ {A = ℕ} 0 1 = cc in omega arith
not_literal ρ (links_to s q o) v p m e = let z : ◌≡◌ {A = ℕ} 0 1 = cc in omega arith
not_literal ρ (links_to_value s q x) v p m e = let z : ◌≡◌ {A = ℕ} 0 1 = cc in omega arith

not_type : (t : ℕ) → type t ≡ Literal → ⊥
not_type t e = let z : ◌≡◌ {A = ℕ} 0 1 = cc in omega arith

module _ (σ : Spelling) (P : Pack) (distinct : Distinct σ P) where
  pub built_name_one : (b c : BuiltNode) → IsBuilt P b → IsBuilt P c → built_name σ b ≡ built_name σ c → b ≡ c
  unfolding built_name Distinct
  built_name_one (core n) (core m) i j e = ap core (distinct n m (is_core σ P i) (is_core σ P j) e)
  built_name_one (core n) (invented X) i j e = absurd (set_unnamed X.literal X.mask (subst (λ x. T (is_named x)) e (core_named σ n)))
  built_name_one (invented X) (core n) i j e = absurd (set_unnamed X.literal X.mask (subst (λ x. T (is_named x)) (sym e) (core_named σ n)))
  built_name_one (invented X) (invented Y) i j e =
      let r = set_name_one X.literal Y.literal X.mask Y.mask e in
      λ k. invented (record { literal = r.0 k; mask = r.1 k })

  module _ (E : Enumeration P) (has : ¬ NoGraph P) where
    -- ---- the types of each built node: its own, and Literal for every literal

    type_set : BuiltNode → TypeSet
    type_set (core n) = E.types n
    type_set (invented X) = X

    type_set_is : (b : BuiltNode) → IsBuilt P b → (S : Target) → (S ∈ₜ type_set b) ↔ HasType P b S
    unfolding type_set
    type_set_is (core n) i S = E.types_listed (is_core σ P i) S
    type_set_is (invented X) i S = (λ h. h, λ h. h)

    own_literal : BuiltNode → List Target
    own_literal (core (iri_node c vs)) = []
    own_literal (core (literal_node v)) = Literal ∷ []
    own_literal (invented X) = []

    type_list : BuiltNode → List Target
    type_list b = own_literal b ++ members (type_set b)

    listed_type : (b : BuiltNode) → IsBuilt P b → (S : Target) → HasType P b S → S ∈ type_list b
    unfolding type_list
    listed_type b i S h = ∈_append (own_literal b) _ (inr (members_in (type_set b) S ((type_set_is b i S).1 h)))

    listed_own : (b : BuiltNode) (S : Target) → S ∈ own_literal b → (S ≡ Literal) × T (is_literal (built_name σ b))
    unfolding own_literal built_name
    listed_own (core (iri_node c vs)) S h = elim h [ ]
    listed_own (core (literal_node v)) S (here e) = (e, tt)
    listed_own (core (literal_node v)) S (there h) = elim h [ ]
    listed_own (invented X) S h = elim h [ ]

    -- a listed type is the node's, or it is Literal and the node is a literal
    type_listed : (b : BuiltNode) → IsBuilt P b → (S : Target) → S ∈ type_list b → HasType P b S ⊎ ((S ≡ Literal) × T (is_literal (built_name σ b)))
    unfolding type_list
    type_listed b i S h = go (Memᴰ.append_cases (own_literal b) h)
      where
        go : (S ∈ own_literal b) ⊎ (S ∈ members (type_set b)) → HasType P b S ⊎ ((S ≡ Literal) × T (is_literal (built_name σ b)))
        go (inl o) = inr (listed_own b S o)
        go (inr m) = inl ((type_set_is b i S).0 (members_only (type_set b) S m))

    -- ---- the graph

    name_edge : BuiltTriple → Edge
    name_edge e = record { subject = built_name σ e.subject; predicate = e.predicate; object = built_name σ e.object }

    type_facts : BuiltNode → List TypeFact
    type_facts b = map (λ S. record { node = built_name σ b; member = S }) (type_list b)

    pub built_graph : Graph
    built_graph = record {
      nodes = map (built_name σ) E.nodes;
      edges = map name_edge E.edges;
      types = flat_map type_facts E.nodes;
    }

    -- what is in it, in terms of built nodes
    has_node : {b : BuiltNode} → IsBuilt P b → built_name σ b ∈ built_graph.nodes
    unfolding built_graph
    has_node i = ∈-map (built_name σ) (E.node_listed i)

    pub node_is : {n : Name} → n ∈ built_graph.nodes → (b : BuiltNode) × IsBuilt P b × (n ≡ built_name σ b)
    unfolding built_graph
    node_is h = let r = ∈_map⁻¹ (built_name σ) E.nodes h in (r.0, E.listed_node r.1, r.2)

    has_edge : {b c : BuiltNode} {p : ℕ} → BuiltEdge P b p c → HasEdge built_graph (built_name σ b) p (built_name σ c)
    unfolding built_graph name_edge
    has_edge e = ∈-map name_edge (E.edge_listed e)

    edge_is : {n m : Name} {p : ℕ} → HasEdge built_graph n p m
        → (b c : BuiltNode) × BuiltEdge P b p c × (n ≡ built_name σ b) × (m ≡ built_name σ c)
    unfolding built_graph name_edge
    edge_is {n} {m} {p} h =
        let r = ∈_map⁻¹ name_edge E.edges h in
        let t = r.0 in (
          t.subject,
          t.object,
          subst (λ q. BuiltEdge P t.subject q t.object) (sym (ap (λ (e : Edge). e.predicate) r.2)) (E.listed_edge r.1),
          ap (λ (e : Edge). e.subject) r.2,
          ap (λ (e : Edge). e.object) r.2,
        )

    has_type_lem : (b : BuiltNode) → IsBuilt P b → (S : Target) → S ∈ type_list b → Typed built_graph (built_name σ b) S
    unfolding built_graph type_facts
    has_type_lem b i S h = joined_in type_facts (E.node_listed i) (∈-map (λ S. record { node = built_name σ b; member = S }) h)

    type_is : {n : Name} {S : Target} → Typed built_graph n S → (b : BuiltNode) × IsBuilt P b × (n ≡ built_name σ b) × (S ∈ type_list b)
    unfolding built_graph type_facts
    type_is {n} {S} h =
        let r = joined_only type_facts E.nodes h in
        let q = ∈_map⁻¹ (λ S. record { node = built_name σ r.0; member = S }) (type_list r.0) r.2 in (
          r.0,
          E.listed_node r.1,
          ap (λ (f : TypeFact). f.node) q.2,
          subst (λ R. R ∈ type_list r.0) (sym (ap (λ (f : TypeFact). f.member) q.2)) q.1,
        )

    -- ---- it obeys the pack

    -- a literal has no type
    untyped : (b : BuiltNode) → IsBuilt P b → (t : ℕ) → HasType P b (type t) → T (is_literal (built_name σ b)) → ⊥
    unfolding built_name
    untyped (core (iri_node c vs)) i t h l = l
    untyped (core (literal_node v)) i t h l = has (inr (literal_typed v t h))
    untyped (invented X) i t h l = has (inr (mixed_set X t i ((set_literal X.literal X.mask).0 l) h))

    -- what has the type Literal is a literal
    literal_only : (b : BuiltNode) → HasType P b Literal → T (is_literal (built_name σ b))
    unfolding built_name
    literal_only (core (iri_node c vs)) h = has (inr (iri_literal c vs h))
    literal_only (core (literal_node v)) h = tt
    literal_only (invented X) h = (set_literal X.literal X.mask).1 h

    literal_listed : (b : BuiltNode) → IsBuilt P b → T (is_literal (built_name σ b)) → Literal ∈ type_list b
    unfolding built_name type_list own_literal
    literal_listed (core (iri_node c vs)) i l = absurd l
    literal_listed (core (literal_node v)) i l = here refl
    literal_listed (invented X) i l = listed_type (invented X) i Literal ((set_literal X.literal X.mask).0 l)

    leaf : {b c : BuiltNode} {p : ℕ} → BuiltEdge P b p c → T (is_literal (built_name σ b)) → ⊥
    unfolding built_name
    leaf (from_core {n = iri_node c vs} e) l = l
    leaf (from_core {n = literal_node v} {m} {p} e) l = not_literal e.values e.rule.head v p m e.says
    leaf (made {b} i g) l = untyped b i g.needs.member g.needs.has l

    -- a node's type, read back from a type fact
    type_back : {n : Name} {t : ℕ} → Typed built_graph n (type t) → (b : BuiltNode) × IsBuilt P b × (n ≡ built_name σ b) × HasType P b (type t)
    type_back {n} {t} h = let r = type_is h in (r.0, r.1, r.2, go r.0 (type_listed r.0 r.1 (type t) r.3))
      where
        go : (b : BuiltNode) → HasType P b (type t) ⊎ ((type t ≡ Literal) × T (is_literal (built_name σ b))) → HasType P b (type t)
        go b (inl h) = h
        go b (inr e) = absurd (not_type t e.0)

    -- a required edge is there: in the list, or it is made
    built_some : (b : BuiltNode) (p : ℕ) → IsBuilt P b → Requires P b p → (c : BuiltNode) × BuiltEdge P b p c
    built_some b p i r = go (find (λ (e : BuiltTriple). Dec.and (same_built e.subject b) (ℕ_discrete e.predicate p)) E.edges)
      where
        absent : (x : BuiltNode) → ((e : BuiltTriple) → e ∈ E.edges → ¬ ((e.subject ≡ x) × (e.predicate ≡ p))) → ¬ HasCoreEdge P x p
        absent (core n) nowhere h = nowhere _ (E.edge_listed (from_core h.1)) (refl, refl)
        absent (invented X) nowhere h = h

        go : ((e : BuiltTriple) × (e ∈ E.edges) × ((e.subject ≡ b) × (e.predicate ≡ p)))
            ⊎ ((e : BuiltTriple) → e ∈ E.edges → ¬ ((e.subject ≡ b) × (e.predicate ≡ p))) → (c : BuiltNode) × BuiltEdge P b p c
        go (inl f) = (f.0.object, subst₂ (λ x q. BuiltEdge P x q f.0.object) f.2.0 f.2.1 (E.listed_edge f.1))
        go (inr nowhere) =
            let X = targets P (type_set b) p in
            (invented X, made i (record { needs = r; missing = absent b nowhere; targets = targets_are P b (type_set b) (type_set_is b i) p }))

    -- the two nodes of one name are one
    same : (n : Name) (b c : BuiltNode) → IsBuilt P b → IsBuilt P c → n ≡ built_name σ b → n ≡ built_name σ c → b ≡ c
    same n b c i j e f = built_name_one b c i j (sym e ∙ f)

    -- a p-edge of the graph from a known node, as a built edge from that node
    pub edge_back : {n m : Name} {p : ℕ} (b : BuiltNode) → IsBuilt P b → n ≡ built_name σ b → HasEdge built_graph n p m
        → (c : BuiltNode) × BuiltEdge P b p c × (m ≡ built_name σ c)
    edge_back {n} {m} {p} b i e h =
        let r = edge_is h in
        let q = same n r.0 b ((built_closed σ P).from r.2) i r.3 e in
        (r.1, subst (λ x. BuiltEdge P x p r.1) q r.2, r.4)

    pub built_graph_obeys : Obeys σ P built_graph
    unfolding built_name
    built_graph_obeys = record {
      from_node = λ h. let r = edge_is h in subst (λ x. x ∈ built_graph.nodes) (sym r.3) (has_node ((built_closed σ P).from r.2));
      to_node = λ h. let r = edge_is h in subst (λ x. x ∈ built_graph.nodes) (sym r.4) (has_node ((built_closed σ P).to r.2));
      typed_node = λ h. let r = type_is h in subst (λ x. x ∈ built_graph.nodes) (sym r.2) (has_node r.1);
      heads = λ {f} g. given_holds f g;
      no_edges = λ h l. let r = edge_is h in leaf r.2 (subst (λ x. T (is_literal x)) r.3 l);
      literals = λ h l. let r = node_is h in
          subst (λ x. Typed built_graph x Literal) (sym r.2) (has_type_lem r.0 r.1 Literal (literal_listed r.0 r.1 (subst (λ x. T (is_literal x)) r.2 l)));
      only_literal = λ {n} {t} h l. let r = type_back h in untyped r.0 r.1 t r.3 (subst (λ x. T (is_literal x)) r.2 l);
      never_literal = λ h. let r = type_is h in
          subst (λ x. T (is_literal x)) (sym r.2) (literal_back r.0 (type_listed r.0 r.1 Literal r.3));
      target = λ {n} {m} {t} {p} {s} h d e.
          let r = type_back h in
          let q = edge_back r.0 r.1 r.2 e in
          let j = (built_closed σ P).to q.1 in
          subst (λ x. Typed built_graph x s.target) (sym q.2)
          (has_type_lem q.0 j s.target (listed_type q.0 j s.target (built_target P r.3 d q.1)));
      some_object = λ {n} {t} {p} {s} h d w.
          let r = type_back h in
          let q = built_some r.0 p r.1 (record { member = t; shape = s; has = r.3; declared = d; required = w }) in
          (built_name σ q.0, subst (λ x. HasEdge built_graph x p (built_name σ q.0)) (sym r.2) (has_edge q.1));
      one_object = λ {n} {m} {m'} {t} {p} {s} h d l e e'.
          let r = type_back h in
          let q = edge_back r.0 r.1 r.2 e in
          let q' = edge_back r.0 r.1 r.2 e' in
          q.2 ∙ ap (built_name σ) (built_one P (λ two. has (inl two)) r.3 d l q.1 q'.1) ∙ sym q'.2;
    }
      where
        given_holds : (f : Fact) → Given P f → Holds σ built_graph f
        given_holds (typed n S) g = let i = in_core (as_typed g) in has_type_lem (core n) i S (listed_type (core n) i S (given g))
        given_holds (triple n p m) g = has_edge (from_core g)

        literal_back : (b : BuiltNode) → HasType P b Literal ⊎ ((Literal ≡ Literal) × T (is_literal (built_name σ b))) → T (is_literal (built_name σ b))
        literal_back b (inl h) = literal_only b h
        literal_back b (inr e) = e.1
