-- The built graph is simulated by every graph that obeys the pack, and a clash leaves no such graph. Assumes nothing.
use mathlib.Core.Logic.{inl, inr}
use mathlib.Core.Path.{◌≡◌, refl, sym, subst}
use Prim.Native.Nat.{ℕ}
use Rattle.meaning.proofs.Theory.Simulation.{Closed, Simulation, follows, robust, starts}
use Rattle.meaning.specs.Built.{BuiltEdge, BuiltNode, Gets, HasType, IsBuilt, PTarget, arises, core, from_core, in_core, invented, made}
use Rattle.meaning.specs.Certain.{BuiltIri, BuiltLiteral, CertainPair, CertainYes, Distinct, built}
use Rattle.meaning.specs.Core.{CoreNode, CoreType, Node, as_object, as_subject, as_typed, given, passed}
use Rattle.meaning.specs.Graph.{Graph, HasEdge, Name, NameIri, NameLiteral, Obeys, Spelling, Typed, name_of, view}
use Rattle.meaning.specs.Member.{◌∈◌}
use Rattle.meaning.specs.NoGraph.{MixedKinds, NoGraph, TwoObjects, iri_literal, literal_typed, mixed_set}
use Rattle.meaning.specs.Pack.{Literal, Pack, Target, Text, type}
use Rattle.meaning.specs.Query.{Expr, Joins, Satisfied}
use Rattle.meaning.specs.TypeSet.{TypeSet, ◌∈ₜ◌}

module _ (σ : Spelling) (P : Pack) (G : Graph) (obeys : Obeys σ P G) where
  -- A core node is like the node of its name; an invented node is like every node that has its types.
  abbrev Like : BuiltNode → Name → Type 0
  Like (core n) m = (name_of σ n ≡ m) × (m ∈ G.nodes)
  Like (invented X) m = (m ∈ G.nodes) × ((S : Target) → S ∈ₜ X → Typed G m S)

  core_typed : {n : Node} {S : Target} → CoreType P n S → Typed G (name_of σ n) S
  core_typed (given g) = obeys.heads g
  core_typed (passed c d e) = obeys.target (core_typed c) d (obeys.heads e)

  like_typed : (b : BuiltNode) (m : Name) → Like b m → (S : Target) → HasType P b S → Typed G m S
  like_typed (core n) m z S h = subst (λ x. Typed G x S) z.0 (core_typed h)
  like_typed (invented X) m z S h = z.1 S h

  like_node : (b : BuiltNode) (m : Name) → Like b m → m ∈ G.nodes
  like_node (core n) m z = z.1
  like_node (invented X) m z = z.0

  core_node : {n : Node} → CoreNode P n → name_of σ n ∈ G.nodes
  core_node (as_typed g) = obeys.typed_node (obeys.heads g)
  core_node (as_subject g) = obeys.from_node (obeys.heads g)
  core_node (as_object g) = obeys.to_node (obeys.heads g)

  -- what lies along a p-edge from a node like b has b's p-targets
  target_typed : {b : BuiltNode} {p : ℕ} {m k : Name} → Like b m → HasEdge G m p k → (S : Target) → PTarget P b p S → Typed G k S
  target_typed {b} {m} {k} z e S t =
      subst (λ x. Typed G k x) t.is (obeys.target (like_typed b m z (type t.member) t.has) t.declared e)

  -- the edge that b gets, from any node like b
  like_gets : {b : BuiltNode} {p : ℕ} {X : TypeSet} (m : Name) → Like b m → Gets P b p X → (k : Name) × HasEdge G m p k × Like (invented X) k
  like_gets {b} m z g =
      let r = g.needs in
      let k = obeys.some_object (like_typed b m z (type r.member) r.has) r.declared r.required in
      (k.0, k.1, (obeys.to_node k.1, λ S h. target_typed {b = b} z k.1 S ((g.targets S).0 h)))

  like_edge : {b c : BuiltNode} {p : ℕ} (m : Name) → Like b m → BuiltEdge P b p c → (k : Name) × HasEdge G m p k × Like c k
  like_edge m z (from_core {m = o} {p} e) =
      let h = obeys.heads e in (name_of σ o, subst (λ x. HasEdge G x p (name_of σ o)) z.0 h, (refl, obeys.to_node h))
  like_edge m z (made {b} i g) = like_gets {b = b} m z g

  like_total : (b : BuiltNode) → IsBuilt P b → (m : Name) × Like b m
  like_total b (in_core {n} c) = (name_of σ n, (refl, core_node c))
  like_total b (arises {b = a} i g) = let z = like_total a i in let k = like_gets {b = a} z.0 z.1 g in (k.0, k.2)

  like_iri : (b : BuiltNode) (m : Name) (label : Text) → Like b m → BuiltIri σ P label b → NameIri σ label m
  like_iri (core n) m label z h = subst (NameIri σ label) z.0 h
  like_iri (invented X) m label z h = absurd h

  like_literal : (b : BuiltNode) (m : Name) (label : Text) → Like b m → BuiltLiteral σ P label b → NameLiteral σ label m
  like_literal (core n) m label z h = subst (NameLiteral σ label) z.0 h
  like_literal (invented X) m label z h = absurd h

  -- the built graph is simulated by G (document 002, definition 19)
  pub simulated : Simulation (built σ P) (view σ P G)
  simulated = record {
    Like = Like;
    total = like_total;
    node = λ {n} {n'} z. like_node n n' z;
    edge = λ {n} {m} {n'} {p} z e. like_edge {b = n} {c = m} {p = p} n' z e;
    names = λ h. h;
    iri = λ {n} {n'} {label} z h. like_iri n n' label z h;
    literal = λ {n} {n'} {label} z h. like_literal n n' label z h;
  }

-- ---- a yes and a pair of the built graph are certain

module _ (σ : Spelling) (P : Pack) where
  pub built_closed : Closed (built σ P)
  built_closed = record { from = λ {n} {m} {p} e. edge_from e; to = λ {n} {m} {p} e. edge_to e }
    where
      edge_from : {b c : BuiltNode} {p : ℕ} → BuiltEdge P b p c → IsBuilt P b
      edge_from (from_core e) = in_core (as_subject e)
      edge_from (made i g) = i

      edge_to : {b c : BuiltNode} {p : ℕ} → BuiltEdge P b p c → IsBuilt P c
      edge_to (from_core e) = in_core (as_object e)
      edge_to (made i g) = arises i g

  pub is_core : {n : Node} → IsBuilt P (core n) → CoreNode P n
  is_core (in_core c) = c

  pub yes_certain : (e : Expr) → Satisfied (built σ P) e → CertainYes σ P e
  unfolding CertainYes
  yes_certain e s G o = robust (simulated σ P G o) built_closed e s

  pub pair_certain : (e : Expr) (n m : Node) → Joins (built σ P) e (core n) (core m) → CertainPair σ P e (name_of σ n) (name_of σ m)
  unfolding CertainPair simulated
  pair_certain e n m j G o =
      let c = core_node σ P G o (is_core (starts built_closed e (core n) (core m) j)) in
      let r = follows (simulated σ P G o) e (core n) (core m) (name_of σ n) (refl, c) j in
      subst (λ x. Joins (view σ P G) e (name_of σ n) x) (sym r.2.0) r.1

  -- ---- a clash leaves no graph

  pub two_objects : Distinct σ P → TwoObjects P → (G : Graph) → ¬ Obeys σ P G
  unfolding Distinct
  two_objects d c G o =
      c.differ (d c.first c.second (as_object c.edge₁) (as_object c.edge₂)
      (o.one_object (core_typed σ P G o c.has) c.declared c.limited (o.heads c.edge₁) (o.heads c.edge₂)))

  pub mixed_kinds : MixedKinds P → (G : Graph) → ¬ Obeys σ P G
  mixed_kinds (literal_typed v t h) G o = o.only_literal (core_typed σ P G o h) tt
  mixed_kinds (iri_literal c vs h) G o = o.never_literal (core_typed σ P G o h)
  mixed_kinds (mixed_set X t i l h) G o =
      let z = like_total σ P G o (invented X) i in
      o.only_literal (z.1.1 (type t) h) (o.never_literal (z.1.1 Literal l))

  pub no_graph : Distinct σ P → NoGraph P → (G : Graph) → ¬ Obeys σ P G
  no_graph d (inl c) = two_objects d c
  no_graph d (inr c) = mixed_kinds c
