-- The built graph, listed: what each node gets, the nodes, the edges. Assumes nothing.
use lib.Dec.{T}
use lib.ListN.{length}
use mathlib.Core.Bool.{Bool, true, false, not, ◌&&◌, decide}
use mathlib.Core.List.Memᴰ
use mathlib.Core.List.Memᴰ.{map as ∈-map}
use mathlib.Core.List.{List, [], ◌∷◌, ◌++◌, map, flat_map, filter_map}
use mathlib.Core.Logic.Dec
use mathlib.Core.Logic.Iff
use mathlib.Core.Logic.{◌⊎◌, ◌↔◌, inl, inr}
use mathlib.Core.Option.{Option, none, some, none-ne-some, some-injective}
use mathlib.Core.Path.{◌≡◌, refl, sym, ap, ◌∙◌, subst, subst₂}
use native.Mathlib.Decide.{ℕ_discrete}
use native.Mathlib.Nat.{le_refl}
use Prim.Native.Nat.{ℕ, ◌^◌, ◌<◌}
use Rattle.meaning.proofs.Lists.Bits.{mask_lt, members, members_in, members_only, same_members, test}
use Rattle.meaning.proofs.Lists.Members.{T?, any_in, any_only, below, below_in, collect_in, collect_only, joined_in, joined_only, only_if, only_if_some, some_only_if, ∈_append, ∈_map⁻¹}
use Rattle.meaning.proofs.Lists.Reach.{Reached, grow, reach_iff, seed, step}
use Rattle.meaning.proofs.Model.Core.{core_nodes, given_iff, in_node, node_in, types_of, types_of_iff}
use Rattle.meaning.proofs.Model.Enumeration.{BuiltTriple, Enumeration}
use Rattle.meaning.proofs.Model.Facts.{facts}
use Rattle.meaning.proofs.Model.Resolved.{Resolved}
use Rattle.meaning.proofs.Model.Same.{same_built, same_node}
use Rattle.meaning.proofs.Model.Targets.{targets, targets_are}
use Rattle.meaning.specs.Built.{BuiltEdge, BuiltNode, Gets, HasCoreEdge, HasType, IsBuilt, Requires, arises, core, from_core, in_core, invented, made}
use Rattle.meaning.specs.Core.{CoreEdge, Fact, Given, Node, as_object, as_subject, triple, typed}
use Rattle.meaning.specs.Member.{◌∈◌, here, there}
use Rattle.meaning.specs.Pack.{Literal, Pack, Shape, Target, requires, shape_of, type}
use Rattle.meaning.specs.Tests.{any}
use Rattle.meaning.specs.TypeSet.{TypeSet, ◌∈ₜ◌, bit}

module _ (P : Pack) where
  -- ---- what each node gets

  unfoldable pub type_set : BuiltNode → TypeSet
  unfolding types_of
  type_set (core n) = types_of P n
  type_set (invented X) = X

  unfoldable pub asks : Option Shape → Bool
  asks none = false
  asks (some s) = requires s.multiplicity

  unfoldable pub demanded_by : ℕ → Target → Bool
  unfolding asks
  demanded_by p Literal = false
  demanded_by p (type t) = asks (shape_of P.setting t p)

  unfoldable pub from_node : Node → ℕ → Fact → Bool
  unfolding Dec.and decide same_node ℕ_discrete
  from_node n p (typed m S) = false
  from_node n p (triple k q m) = decide (Dec.and (same_node n k) (ℕ_discrete p q))

  unfoldable pub already : ℕ → BuiltNode → Bool
  unfolding facts from_node
  already p (core n) = any (from_node n p) (facts P)
  already p (invented X) = false

  -- some type of b requires a p-edge, and the core has none
  unfoldable pub wanting : BuiltNode → ℕ → Bool
  unfolding already demanded_by members type_set
  wanting b p = any (demanded_by p) (members (type_set b)) && not (already p b)

  unfoldable pub gets_at : BuiltNode → ℕ → Option (ℕ × TypeSet)
  unfolding T? only_if targets type_set wanting
  gets_at b p = only_if (T? (wanting b p)) (p, targets P (type_set b) p)

  unfoldable pub gets : BuiltNode → List (ℕ × TypeSet)
  unfolding below filter_map gets_at
  gets b = filter_map (gets_at b) (below (length P.setting.predicates))

  -- ---- the built nodes and edges

  unfoldable pub invents : BuiltNode → List BuiltNode
  unfolding gets
  invents b = map (λ q. invented q.1) (gets b)

  unfoldable pub with_literal : ℕ → List TypeSet
  with_literal m = record { literal = false; mask = m } ∷ record { literal = true; mask = m } ∷ []

  -- the core nodes and each set of types there is: more cannot come
  unfoldable pub sets : List TypeSet
  unfolding below flat_map with_literal
  sets = flat_map with_literal (below (2 ^ length P.setting.types))

  unfoldable pub every_node : List BuiltNode
  unfolding core_nodes sets
  every_node = map core (core_nodes P) ++ map invented sets

  unfoldable pub built_nodes : List BuiltNode
  unfolding core_nodes every_node grow invents same_built
  built_nodes = grow same_built (map core (core_nodes P)) invents (length every_node) (map core (core_nodes P))

  unfoldable pub core_triple : Fact → Option BuiltTriple
  core_triple (typed n S) = none
  core_triple (triple n p m) = some (record { subject = core n; predicate = p; object = core m })

  unfoldable pub made_triples : BuiltNode → List BuiltTriple
  unfolding gets
  made_triples b = map (λ q. record { subject = b; predicate = q.0; object = invented q.1 }) (gets b)

  unfoldable pub built_edges : List BuiltTriple
  unfolding built_nodes filter_map core_triple facts flat_map made_triples
  built_edges = filter_map core_triple (facts P) ++ flat_map made_triples built_nodes

  -- both ends of a built edge are built
  pub edge_from : {b c : BuiltNode} {p : ℕ} → BuiltEdge P b p c → IsBuilt P b
  edge_from (from_core e) = in_core (as_subject e)
  edge_from (made i g) = i

  pub edge_to : {b c : BuiltNode} {p : ℕ} → BuiltEdge P b p c → IsBuilt P c
  edge_to (from_core e) = in_core (as_object e)
  edge_to (made i g) = arises i g

  module _ (wf : Resolved P) where
    -- ---- what each node gets

    pub type_set_iff : (b : BuiltNode) (S : Target) → (S ∈ₜ type_set b) ↔ HasType P b S
    unfolding type_set
    type_set_iff (core n) S = types_of_iff P wf n S
    type_set_iff (invented X) S = (λ h. h, λ h. h)

    requires_iff : (b : BuiltNode) (p : ℕ) → T (any (demanded_by p) (members (type_set b))) ↔ Requires P b p
    unfolding demanded_by asks
    requires_iff b p = (forth, back)
      where
        shaped : (t : ℕ) → HasType P b (type t) → (o : Option Shape) → shape_of P.setting t p ≡ o → T (asks o) → Requires P b p
        shaped t h none e d = absurd d
        shaped t h (some s) e d = record { member = t; shape = s; has = h; declared = record { is = e }; required = d }

        forth : T (any (demanded_by p) (members (type_set b))) → Requires P b p
        forth h = let r = any_only (demanded_by p) (members (type_set b)) h in go r.0 (members_only (type_set b) r.0 r.1) r.2
          where
            go : (S : Target) → S ∈ₜ type_set b → T (demanded_by p S) → Requires P b p
            go Literal i d = absurd d
            go (type t) i d = shaped t ((type_set_iff b (type t)).0 i) (shape_of P.setting t p) refl d

        back : Requires P b p → T (any (demanded_by p) (members (type_set b)))
        back r =
            any_in (demanded_by p) (members_in (type_set b) (type r.member) ((type_set_iff b (type r.member)).1 r.has))
            (subst (λ o. T (asks o)) (sym r.declared.is) r.required)

    already_iff : (b : BuiltNode) (p : ℕ) → T (already p b) ↔ HasCoreEdge P b p
    unfolding already from_node
    already_iff (core n) p = (forth, λ h. any_in (from_node n p) ((given_iff P wf _).1 h.1) ((test (Dec.and (same_node n n) (ℕ_discrete p p))).1 (refl, refl)))
      where
        forth : T (any (from_node n p) (facts P)) → (m : Node) × CoreEdge P n p m
        forth h = let r = any_only (from_node n p) (facts P) h in go r.0 ((given_iff P wf r.0).0 r.1) r.2
          where
            go : (f : Fact) → Given P f → T (from_node n p f) → (m : Node) × CoreEdge P n p m
            go (typed m S) g t = absurd t
            go (triple k q m) g t =
                let e = (test (Dec.and (same_node n k) (ℕ_discrete p q))).0 t in
                (m, subst₂ (λ x y. CoreEdge P x y m) (sym e.0) (sym e.1) g)
    already_iff (invented X) p = (λ h. h, λ h. h)

    wanting_iff : (b : BuiltNode) (p : ℕ) → T (wanting b p) ↔ (Requires P b p × ¬ HasCoreEdge P b p)
    unfolding wanting
    wanting_iff b p =
        let r = both (any (demanded_by p) (members (type_set b))) (already p b) in (
          λ h. ((requires_iff b p).0 (r.0 h).0, λ e. (r.0 h).1 ((already_iff b p).1 e)),
          λ h. r.1 ((requires_iff b p).1 h.0, λ e. h.1 ((already_iff b p).0 e)),
        )
      where
        both : (x y : Bool) → T (x && not y) ↔ (T x × ¬ T y)
        both true true = (λ h. absurd h, λ h. h.1 tt)
        both true false = (λ h. (tt, λ z. z), λ h. tt)
        both false y = (λ h. absurd h, λ h. h.0)

    GetsPair : BuiltNode → ℕ × TypeSet → Type 0
    GetsPair b q = Gets P b q.0 q.1

    gets_only : (b : BuiltNode) (q : ℕ × TypeSet) → q ∈ gets b → GetsPair b q
    unfolding gets gets_at GetsPair
    gets_only b q h =
        let r = collect_only (gets_at b) (below (length P.setting.predicates)) h in
        let p = r.0 in
        let e = only_if_some (T? (wanting b p)) (p, targets P (type_set b) p) q r.2 in
        let w = (wanting_iff b p).0 e.0 in
        subst (GetsPair b) e.1 (record { needs = w.0; missing = w.1; targets = targets_are P b (type_set b) (type_set_iff b) p })

    gets_in : (b : BuiltNode) (p : ℕ) (X : TypeSet) → Gets P b p X → (p, X) ∈ gets b
    unfolding gets gets_at
    gets_in b p X g =
        collect_in (gets_at b) (below_in p (length P.setting.predicates) (wf.predicate g.needs.declared))
        (some_only_if (T? (wanting b p)) (p, targets P (type_set b) p) ((wanting_iff b p).1 (g.needs, g.missing))
        ∙ ap {B = Option (ℕ × TypeSet)} (λ Y. some (p, Y)) (same_members _ X (λ S. Iff.trans (targets_are P b (type_set b) (type_set_iff b) p S) (Iff.symm (g.targets S)))))

    -- ---- the built nodes

    reached_built : {b : BuiltNode} → Reached same_built (map core (core_nodes P)) invents b → IsBuilt P b
    unfolding invents GetsPair
    reached_built (seed h) =
        let r = ∈_map⁻¹ core (core_nodes P) h in subst (IsBuilt P) (sym r.2) (in_core (in_node P wf r.1))
    reached_built (step {x} i h) =
        let r = ∈_map⁻¹ (λ q. invented q.1) (gets x) h in
        subst (IsBuilt P) (sym r.2) (arises (reached_built i) (gets_only x r.0 r.1))

    built_reached : {b : BuiltNode} → IsBuilt P b → Reached same_built (map core (core_nodes P)) invents b
    unfolding invents
    built_reached (in_core c) = seed (∈-map core (node_in P wf c))
    built_reached (arises {b} {p} {X} i g) = step (built_reached i) (∈-map (λ (q : ℕ × TypeSet). invented q.1) (gets_in b p X g))

    set_in : (X : TypeSet) → X.mask < 2 ^ length P.setting.types → X ∈ sets
    unfolding sets with_literal
    set_in X h = joined_in with_literal (below_in X.mask (2 ^ length P.setting.types) h) (go X.literal)
      where
        go : (l : Bool) → record { literal = l; mask = X.mask } ∈ with_literal X.mask
        go true = there (here refl)
        go false = here refl

    built_in : {b : BuiltNode} → IsBuilt P b → b ∈ every_node
    unfolding every_node
    built_in (in_core c) = ∈_append (map core (core_nodes P)) (map invented sets) (inl (∈-map core (node_in P wf c)))
    built_in (arises {b} {p} {X} i g) =
        ∈_append (map core (core_nodes P)) (map invented sets) (inr (∈-map invented (set_in X (mask_lt (length P.setting.types) X.mask small))))
      where
        small : (t : ℕ) → bit t X.mask ≡ 1 → t < length P.setting.types
        small t h = let q = (g.targets (type t)).0 h in wf.target_type q.declared q.is

    pub nodes_iff : (b : BuiltNode) → (b ∈ built_nodes) ↔ IsBuilt P b
    unfolding built_nodes
    nodes_iff b =
        let r = reach_iff same_built (map core (core_nodes P)) invents every_node (λ x h. built_in (reached_built h)) (length every_node) (le_refl (length every_node)) b in
        (λ h. reached_built (r.0 h), λ i. r.1 (built_reached i))

    -- ---- the built edges

    pub edge_in : {b c : BuiltNode} {p : ℕ} → BuiltEdge P b p c → record { subject = b; predicate = p; object = c } ∈ built_edges
    unfolding built_edges core_triple made_triples
    edge_in (from_core e) = ∈_append (filter_map core_triple (facts P)) (flat_map made_triples built_nodes) (inl (collect_in core_triple ((given_iff P wf _).1 e) refl))
    edge_in (made {b} {p} {X} i g) =
        ∈_append (filter_map core_triple (facts P)) (flat_map made_triples built_nodes)
        (inr (joined_in made_triples ((nodes_iff b).1 i) (∈-map (λ (q : ℕ × TypeSet). record { subject = b; predicate = q.0; object = invented q.1 }) (gets_in b p X g))))

    abbrev pub IsEdge : BuiltTriple → Type 0
    IsEdge e = BuiltEdge P e.subject e.predicate e.object

    pub in_edge : {e : BuiltTriple} → e ∈ built_edges → IsEdge e
    unfolding built_edges core_triple made_triples GetsPair
    in_edge {e} h = go (Memᴰ.append_cases (filter_map core_triple (facts P)) h)
      where
        fact : (f : Fact) → Given P f → core_triple f ≡ some e → IsEdge e
        fact (typed n S) g q = absurd (none-ne-some e q)
        fact (triple n p m) g q = subst IsEdge (some-injective _ e q) (from_core g)

        go : (e ∈ filter_map core_triple (facts P)) ⊎ (e ∈ flat_map made_triples built_nodes) → IsEdge e
        go (inl i) = let r = collect_only core_triple (facts P) i in fact r.0 ((given_iff P wf r.0).0 r.1) r.2
        go (inr i) =
            let r = joined_only made_triples built_nodes i in
            let b = r.0 in
            let q = ∈_map⁻¹ (λ (q : ℕ × TypeSet). record { subject = b; predicate = q.0; object = invented q.1 }) (gets b) r.2 in
            subst IsEdge (sym q.2) (made ((nodes_iff b).0 r.1) (gets_only b q.0 q.1))

    -- the built graph of a well-formed pack, listed
    unfoldable pub enumerate : Enumeration P
    enumerate = record {
      nodes = built_nodes;
      edges = built_edges;
      types = types_of P;
      node_listed = λ {b} i. (nodes_iff b).1 i;
      listed_node = λ {b} h. (nodes_iff b).0 h;
      edge_listed = edge_in;
      listed_edge = in_edge;
      types_listed = λ {n} c S. types_of_iff P wf n S;
    }
