-- Refusal 11 as a test that computes, that it is right for a pack that 7 does not refuse, and "no graph" decided. Assumes
-- nothing.
use lib.Dec.{T}
use mathlib.Core.Bool.{Bool, true, false, ◌&&◌, ◌||◌}
use mathlib.Core.Logic.{◌⊎◌, ◌↔◌, inl, inr}
use mathlib.Core.Option.{Option, none, some}
use Rattle.meaning.proofs.Lists.Bits.{members, members_in, members_only}
use Rattle.meaning.proofs.Lists.Members.{T?, any_in, any_only, both}
use Rattle.meaning.proofs.Model.Built.{built_nodes, nodes_iff}
use Rattle.meaning.proofs.Model.Clash.{Clash, Shows, first_shown, first_clash}
use Rattle.meaning.proofs.Model.Core.{core_types, core_types_iff}
use Rattle.meaning.proofs.Model.Resolved.{Resolved}
use Rattle.meaning.specs.Built.{BuiltNode, IsBuilt, core, invented}
use Rattle.meaning.specs.Core.{CoreType, Node, iri_node, literal_node}
use Rattle.meaning.specs.NoGraph.{MixedKinds, NoGraph, iri_literal, literal_typed, mixed_set}
use Rattle.meaning.specs.Pack.{Literal, Pack, Target, type}
use Rattle.meaning.specs.Tests.{any}
use Rattle.meaning.specs.TypeSet.{TypeSet, ◌∈ₜ◌}

-- a disjunction of tests, split
either : (x y : Bool) → T (x || y) ↔ (T x ⊎ T y)
either true y = (λ h. inl tt, λ h. tt)
either false y = (λ h. inr h, λ h. right h)
  where
    right : ⊥ ⊎ T y → T y
    right (inl h) = absurd h
    right (inr h) = h

module _ (P : Pack) where
  -- a literal with a type, or an IRI with Literal
  unfoldable pub mixed_type : Node × Target → Bool
  mixed_type q = go q.0 q.1
    where
      go : Node → Target → Bool
      go (iri_node c vs) Literal = true
      go (iri_node c vs) (type t) = false
      go (literal_node v) Literal = false
      go (literal_node v) (type t) = true

  unfoldable pub is_type : Target → Bool
  is_type Literal = false
  is_type (type t) = true

  unfoldable pub mixed_node : BuiltNode → Bool
  unfolding members is_type
  mixed_node (core n) = false
  mixed_node (invented X) = X.literal && any is_type (members X)

  unfoldable pub mixed_kinds? : Bool
  unfolding mixed_type mixed_node core_types built_nodes
  mixed_kinds? = any mixed_type (core_types P) || any mixed_node (built_nodes P)

  module _ (wf : Resolved P) where
    pub mixed_iff : T mixed_kinds? ↔ MixedKinds P
    unfolding mixed_kinds? mixed_type mixed_node is_type
    mixed_iff = (λ h. forth ((either (any mixed_type (core_types P)) (any mixed_node (built_nodes P))).0 h), λ c. (either (any mixed_type (core_types P)) (any mixed_node (built_nodes P))).1 (back c))
      where
        type_found : (n : Node) (S : Target) → CoreType P n S → T (mixed_type (n, S)) → MixedKinds P
        type_found (iri_node c vs) Literal h t = iri_literal c vs h
        type_found (iri_node c vs) (type u) h t = absurd t
        type_found (literal_node v) Literal h t = absurd t
        type_found (literal_node v) (type u) h t = literal_typed v u h

        member : (X : TypeSet) → IsBuilt P (invented X) → Literal ∈ₜ X → (S : Target) → S ∈ₜ X → T (is_type S) → MixedKinds P
        member X i l Literal h t = absurd t
        member X i l (type u) h t = mixed_set X u i l h

        node_found : (b : BuiltNode) → IsBuilt P b → T (mixed_node b) → MixedKinds P
        node_found (core n) i t = absurd t
        node_found (invented X) i t =
            let s = (both X.literal (any is_type (members X))).0 t in
            let r = any_only is_type (members X) s.1 in
            member X i s.0 r.0 (members_only X r.0 r.1) r.2

        forth : T (any mixed_type (core_types P)) ⊎ T (any mixed_node (built_nodes P)) → MixedKinds P
        forth (inl h) = let r = any_only mixed_type (core_types P) h in type_found r.0.0 r.0.1 ((core_types_iff P wf r.0).0 r.1) r.2
        forth (inr h) = let r = any_only mixed_node (built_nodes P) h in node_found r.0 ((nodes_iff P wf r.0).0 r.1) r.2

        back : MixedKinds P → T (any mixed_type (core_types P)) ⊎ T (any mixed_node (built_nodes P))
        back (literal_typed v t h) = inl (any_in mixed_type ((core_types_iff P wf (literal_node v, type t)).1 h) tt)
        back (iri_literal c vs h) = inl (any_in mixed_type ((core_types_iff P wf (iri_node c vs, Literal)).1 h) tt)
        back (mixed_set X t i l h) =
            inr (any_in mixed_node ((nodes_iff P wf (invented X)).1 i) ((both X.literal (any is_type (members X))).1 (l, any_in is_type (members_in X (type t) h) tt)))

    pub no_graph? : Dec (NoGraph P)
    no_graph? = go (first_clash P) (first_shown P wf) (T? mixed_kinds?)
      where
        go : (o : Option Clash) → Shows P o → Dec (T mixed_kinds?) → Dec (NoGraph P)
        go (some c) s m = yes (inl s.clash)
        go none s (yes m) = yes (inr (mixed_iff.0 m))
        go none s (no m) = no neither
          where
            neither : ¬ NoGraph P
            neither (inl c) = s c
            neither (inr c) = m (mixed_iff.1 c)
