-- The answers of the built graph are the certain ones. Assumes nothing.
use lib.Dec.{T}
use mathlib.Core.Bool.{Bool, true, false}
use mathlib.Core.Logic.{◌↔◌}
use mathlib.Core.Path.{◌≡◌, refl, sym, subst, subst₂}
use Prim.Native.Nat.{ℕ}
use Rattle.meaning.proofs.Model.Enumeration.{Enumeration}
use Rattle.meaning.proofs.Theory.Obeying.{built_graph, built_graph_obeys, built_name, core_named, edge_back, node_is, set_unnamed, set_name}
use Rattle.meaning.proofs.Theory.Simulated.{built_closed, is_core, no_graph, pair_certain, yes_certain}
use Rattle.meaning.proofs.Theory.Simulation.{Closed, Simulation, follows, robust, starts}
use Rattle.meaning.specs.Built.{BuiltNode, IsBuilt, core, invented}
use Rattle.meaning.specs.Certain.{BuiltIri, BuiltLiteral, CertainPair, CertainYes, Distinct, built}
use Rattle.meaning.specs.Core.{CoreNode, Node}
use Rattle.meaning.specs.Graph.{Graph, Name, NameIri, NameLiteral, Obeys, Spelling, is_named, name_of, view}
use Rattle.meaning.specs.NoGraph.{NoGraph}
use Rattle.meaning.specs.Pack.{Pack, Text}
use Rattle.meaning.specs.Query.{Expr, Joins, Satisfied}

module _ (σ : Spelling) (P : Pack) where
  view_closed : (G : Graph) → Obeys σ P G → Closed (view σ P G)
  view_closed G o = record { from = λ h. o.from_node h; to = λ h. o.to_node h }

module _ (σ : Spelling) (P : Pack) (distinct : Distinct σ P) (E : Enumeration P) (has : ¬ NoGraph P) where
  G : Graph
  G = built_graph σ P distinct E has

  obeys : Obeys σ P G
  unfolding G
  obeys = built_graph_obeys σ P distinct E has

  -- a name is like the built node that has it
  Like : Name → BuiltNode → Type 0
  Like n b = IsBuilt P b × (n ≡ built_name σ b)

  back_iri : (n : Name) (b : BuiltNode) (label : Text) → n ≡ built_name σ b → NameIri σ label n → BuiltIri σ P label b
  unfolding built_name set_name
  back_iri n b label e h = go b (subst (NameIri σ label) e h)
    where
      set : (a : Bool) (k : ℕ) → NameIri σ label (set_name a k) → ⊥
      set true k h = h
      set false k h = h

      go : (b : BuiltNode) → NameIri σ label (built_name σ b) → BuiltIri σ P label b
      go (core n) h = h
      go (invented X) h = set X.literal X.mask h

  back_literal : (n : Name) (b : BuiltNode) (label : Text) → n ≡ built_name σ b → NameLiteral σ label n → BuiltLiteral σ P label b
  unfolding built_name set_name
  back_literal n b label e h = go b (subst (NameLiteral σ label) e h)
    where
      set : (a : Bool) (k : ℕ) → NameLiteral σ label (set_name a k) → ⊥
      set true k h = h
      set false k h = h

      go : (b : BuiltNode) → NameLiteral σ label (built_name σ b) → BuiltLiteral σ P label b
      go (core n) h = h
      go (invented X) h = set X.literal X.mask h

  back : Simulation (view σ P G) (built σ P)
  unfolding G Like
  back = record {
    Like = Like;
    total = λ n h. let r = node_is σ P distinct E has h in (r.0, (r.1, r.2));
    node = λ z. z.0;
    edge = λ {n} {m} {n' = b} {p} z h.
        let r = edge_back σ P distinct E has b z.0 z.1 h in (r.0, r.1, ((built_closed σ P).to r.1, r.2));
    names = λ h. h;
    iri = λ {n} {n' = b} {label} z h. back_iri n b label z.1 h;
    literal = λ {n} {n' = b} {label} z h. back_literal n b label z.1 h;
  }

  -- ---- the theorem

  -- The query is satisfied in every graph that obeys the pack exactly if it is satisfied in the built graph.
  pub yes_iff : (e : Expr) → CertainYes σ P e ↔ Satisfied (built σ P) e
  unfolding CertainYes
  yes_iff e = (λ c. robust back (view_closed σ P G obeys) e (c G obeys), yes_certain σ P e)

  -- a named node that is like a built one is a core node's
  named_core : (n : Name) (b : BuiltNode) → T (is_named n) → IsBuilt P b → n ≡ built_name σ b → (k : Node) × CoreNode P k × (n ≡ name_of σ k) × (b ≡ core k)
  unfolding built_name
  named_core n (core k) t i e = (k, is_core σ P i, e, refl)
  named_core n (invented X) t i e = absurd (set_unnamed X.literal X.mask (subst (λ x. T (is_named x)) e t))

  -- Every certain pair of names is a pair of core nodes that the query joins in the built graph.
  pub pairs_all : (e : Expr) (n m : Name) → T (is_named n) → T (is_named m) → CertainPair σ P e n m
      → (k l : Node) × (CoreNode P k × CoreNode P l) × ((n ≡ name_of σ k) × (m ≡ name_of σ l)) × Joins (built σ P) e (core k) (core l)
  unfolding CertainPair G Like back
  pairs_all e n m tn tm c =
      let j = c G obeys in
      let r = node_is σ P distinct E has (starts (view_closed σ P G obeys) e n m j) in
      let s = follows back e n m r.0 (r.1, r.2) j in
      let k = named_core n r.0 tn r.1 r.2 in
      let l = named_core m s.0 tm s.2.0 s.2.1 in
      (k.0, l.0, (k.1, l.1), (k.2, l.2), subst₂ (Joins (built σ P) e) k.3 l.3 s.1)

  -- Two core nodes are a certain pair, by their names, exactly if the query joins them in the built graph.
  pub pair_iff : (e : Expr) (n m : Node) → CoreNode P n → CoreNode P m
      → CertainPair σ P e (name_of σ n) (name_of σ m) ↔ Joins (built σ P) e (core n) (core m)
  unfolding Distinct
  pair_iff e n m i j = (forth, pair_certain σ P e n m)
    where
      forth : CertainPair σ P e (name_of σ n) (name_of σ m) → Joins (built σ P) e (core n) (core m)
      forth c =
          let r = pairs_all e (name_of σ n) (name_of σ m) (core_named σ n) (core_named σ m) c in
          subst₂ (λ x y. Joins (built σ P) e (core x) (core y)) (sym (distinct n r.0 i r.2.0 r.3.0)) (sym (distinct m r.1 j r.2.1 r.3.1)) r.4

-- There is a graph that obeys the pack exactly if there is no clash, for a pack whose built graph is enumerated.
module _ (σ : Spelling) (P : Pack) (distinct : Distinct σ P) (E : Enumeration P) where
  pub graph_iff : ((G : Graph) × Obeys σ P G) ↔ (¬ NoGraph P)
  graph_iff = (λ g c. no_graph σ P distinct c g.0 g.1, λ n. (built_graph σ P distinct E n, built_graph_obeys σ P distinct E n))
