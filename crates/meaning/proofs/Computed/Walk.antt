-- The built graph, listed, can be walked: so the answers in it are computed. Assumes nothing.
use lib.ListN.{get_elem?}
use mathlib.Core.List.Memᴰ.{map as ∈-map}
use mathlib.Core.List.{List, [], map, filter_map, flat_map}
use mathlib.Core.Logic.Dec
use mathlib.Core.Logic.{◌↔◌}
use mathlib.Core.Option.{Option, none, some, none-ne-some, some-injective}
use mathlib.Core.Path.{◌≡◌, refl, sym, ap, subst₂, ◌∙◌}
use Rattle.meaning.proofs.Computed.Evaluate.{Walkable, Walks, reaches, reaches_iff}
use Rattle.meaning.proofs.Lists.Members.{collect_in, collect_only, joined_in, joined_only, only_if, only_if_some, some_only_if, ∈_map⁻¹}
use Rattle.meaning.proofs.Model.Enumeration.{BuiltTriple, Enumeration}
use Rattle.meaning.proofs.Model.Same.{same_built, same_text}
use Rattle.meaning.proofs.Theory.Simulated.{built_closed}
use Rattle.meaning.proofs.Theory.Simulation.{starts}
use Rattle.meaning.specs.Built.{BuiltEdge, BuiltNode, IsBuilt, core, invented}
use Rattle.meaning.specs.Certain.{BuiltIri, BuiltLiteral, built}
use Rattle.meaning.specs.Core.{Node, iri_node, literal_node}
use Rattle.meaning.specs.Graph.{Spelling}
use Rattle.meaning.specs.Member.{◌∈◌}
use Rattle.meaning.specs.Pack.{Pack, Text}
use Rattle.meaning.specs.Query.{Expr, Joins}

unfoldable pub is_some : (o : Option Text) (t : Text) → Dec (o ≡ some t)
unfolding same_text
is_some none t = no (λ e. none-ne-some t e)
is_some (some s) t = go (same_text s t)
  where
    go : Dec (s ≡ t) → Dec (some s ≡ some t)
    go (yes e) = yes (ap {B = Option Text} some e)
    go (no n) = no (λ e. n (some-injective s t e))

-- whether a label matches, decided
pub record Decided (σ : Spelling) : Type 0 where
  pub iri? : (label text : Text) → Dec (σ.IriMatches label text)
  pub literal? : (label text : Text) → Dec (σ.LiteralMatches label text)

module _ (σ : Spelling) (D : Decided σ) (P : Pack) where
  unfoldable pub built_iri? : (label : Text) (b : BuiltNode) → Dec (BuiltIri σ P label b)
  built_iri? label (core (iri_node c vs)) = D.iri? label (σ.iri_text c vs)
  built_iri? label (core (literal_node v)) = no (λ h. h)
  built_iri? label (invented X) = no (λ h. h)

  unfoldable pub built_literal? : (label : Text) (b : BuiltNode) → Dec (BuiltLiteral σ P label b)
  built_literal? label (core (iri_node c vs)) = no (λ h. h)
  built_literal? label (core (literal_node v)) = D.literal? label (σ.literal_text v)
  built_literal? label (invented X) = no (λ h. h)

  unfoldable pub object_along : Text → BuiltNode → BuiltTriple → Option BuiltNode
  unfolding only_if same_built is_some Dec.and
  object_along name b e = only_if (Dec.and (same_built b e.subject) (is_some (get_elem? P.setting.predicates e.predicate) name)) e.object

  unfoldable pub object_onward : BuiltNode → BuiltTriple → Option BuiltNode
  unfolding only_if same_built
  object_onward b e = only_if (same_built b e.subject) e.object

  unfoldable pub walk : List BuiltNode → List BuiltTriple → Walkable (built σ P)
  unfolding object_along object_onward filter_map built_iri? built_literal? same_built
  walk nodes edges = record {
    same = same_built;
    nodes = nodes;
    along = λ name b. filter_map (object_along name b) edges;
    onward = λ b. filter_map (object_onward b) edges;
    iri? = built_iri?;
    literal? = built_literal?;
  }

  module _ (E : Enumeration P) where
    pub walks : Walks (built σ P) (walk E.nodes E.edges)
    unfolding walk object_along object_onward
    walks = record {
      nodes_iff = λ b. (λ h. E.listed_node h, λ i. E.node_listed i);
      along_iff = λ name b c. (
        λ h. let r = collect_only (object_along name b) E.edges h in
            let t = r.0 in
            let o = only_if_some (Dec.and (same_built b t.subject) (is_some (get_elem? P.setting.predicates t.predicate) name)) t.object c r.2 in
            (t.predicate, o.0.1, subst₂ (λ x y. BuiltEdge P x t.predicate y) (sym o.0.0) o.1 (E.listed_edge r.1)),
        λ j. collect_in (object_along name b) (E.edge_listed j.2)
            (some_only_if (Dec.and (same_built b b) (is_some (get_elem? P.setting.predicates j.0) name)) c (refl, j.1)),
      );
      onward_iff = λ b c. (
        λ h. let r = collect_only (object_onward b) E.edges h in
            let t = r.0 in
            let o = only_if_some (same_built b t.subject) t.object c r.2 in
            (t.predicate, subst₂ (λ x y. BuiltEdge P x t.predicate y) (sym o.0) o.1 (E.listed_edge r.1)),
        λ j. collect_in (object_onward b) (E.edge_listed j.1) (some_only_if (same_built b b) c refl),
      );
    }

-- ---- the pairs

unfoldable pub core_of : BuiltNode → Option Node
core_of (core n) = some n
core_of (invented X) = none

core_of_some : (b : BuiltNode) (n : Node) → core_of b ≡ some n → b ≡ core n
unfolding core_of
core_of_some (core m) n e = ap core (some-injective m n e)
core_of_some (invented X) n e = absurd (none-ne-some n e)

module _ (σ : Spelling) (P : Pack) (W : Walkable (built σ P)) where
  unfoldable pub pairs_from : Expr → BuiltNode → List (Node × Node)
  unfolding reaches filter_map core_of
  pairs_from e (core n) = map (λ m. (n, m)) (filter_map core_of (reaches W e (core n)))
  pairs_from e (invented X) = []

  -- the named pairs that the expression joins
  unfoldable pub pairs_of : Expr → List (Node × Node)
  unfolding pairs_from flat_map
  pairs_of e = flat_map (pairs_from e) W.nodes

  pub pairs_computed : Walks (built σ P) W → (e : Expr) (n m : Node) → ((n, m) ∈ pairs_of e) ↔ Joins (built σ P) e (core n) (core m)
  unfolding pairs_of pairs_from core_of
  pairs_computed w e n m = (forth, back)
    where
      from : (b : BuiltNode) → IsBuilt P b → (n, m) ∈ pairs_from e b → Joins (built σ P) e (core n) (core m)
      from (core k) i h =
          let r = ∈_map⁻¹ {B = Node × Node} (λ x. (k, x)) (filter_map core_of (reaches W e (core k))) h in
          let q = collect_only core_of (reaches W e (core k)) r.1 in
          let j = (reaches_iff W w (built_closed σ P) e (core k) q.0 i).0 q.1 in
          subst₂ (λ x y. Joins (built σ P) e x y) (ap core (sym (ap (λ (z : Node × Node). z.0) r.2)))
          (core_of_some q.0 r.0 q.2 ∙ ap core (sym (ap (λ (z : Node × Node). z.1) r.2))) j
      from (invented X) i h = elim h [ ]

      forth : (n, m) ∈ pairs_of e → Joins (built σ P) e (core n) (core m)
      forth h = let r = joined_only (pairs_from e) W.nodes h in from r.0 ((w.nodes_iff r.0).0 r.1) r.2

      back : Joins (built σ P) e (core n) (core m) → (n, m) ∈ pairs_of e
      back j =
          let i = starts (built_closed σ P) e (core n) (core m) j in
          joined_in (pairs_from e) ((w.nodes_iff (core n)).1 i)
          (∈-map {B = Node × Node} (λ x. (n, x)) (collect_in core_of ((reaches_iff W w (built_closed σ P) e (core n) (core m) i).1 j) refl))
