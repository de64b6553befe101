-- Refusals 9, 10 and 11 (document 01, "Refused, in checking order"). Assumes nothing.
use Rattle.std.specs.Prelude.{T, List, ◌⊎◌, ◌≢◌, ℕ}
use Rattle.meaning.specs.Built.{invented, IsBuilt}
use Rattle.meaning.specs.Core.{Node, iri_node, literal_node, CoreEdge, CoreType, CoreNode}
use Rattle.meaning.specs.Limits.{max_iris, max_core_triples}
use Rattle.meaning.specs.Ordered.{Over}
use Rattle.meaning.specs.Pack.{Pack, Shape, Literal, type, limits, HasShape}
use Rattle.meaning.specs.TypeSet.{TypeSet, ◌∈ₜ◌}

module _ (P : Pack) where
  -- ---- 9: "The core has over 512 IRI nodes or 1,024 triples."

  abbrev pub CoreIri : ℕ × List ℕ → Type 0
  CoreIri t = CoreNode P (iri_node t.0 t.1)

  abbrev pub CoreTriple : Node × ℕ × Node → Type 0
  CoreTriple t = CoreEdge P t.0 t.1 t.2

  abbrev pub TooLarge : Type 0
  TooLarge = Over max_iris CoreIri ⊎ Over max_core_triples CoreTriple

  -- ---- 10: "a core node has two p-objects and a type with multiplicity 1 or 2 for p"

  pub record TwoObjects : Type 0 where
    pub subject : Node
    pub predicate : ℕ
    pub first : Node
    pub second : Node
    pub member : ℕ
    pub shape : Shape
    pub edge₁ : CoreEdge P subject predicate first
    pub edge₂ : CoreEdge P subject predicate second
    pub differ : first ≢ second
    pub has : CoreType P subject (type member)
    pub declared : HasShape P.setting member predicate shape
    pub limited : T (limits shape.multiplicity)

  -- ---- 11: "a core literal has a type, a core IRI has Literal, or an invented node's set holds Literal and a type"

  pub data MixedKinds : Type 0 where
    literal_typed : (v t : ℕ) → CoreType P (literal_node v) (type t) → MixedKinds
    iri_literal : (c : ℕ) (vs : List ℕ) → CoreType P (iri_node c vs) Literal → MixedKinds
    mixed_set : (X : TypeSet) (t : ℕ) → IsBuilt P (invented X) → Literal ∈ₜ X → type t ∈ₜ X → MixedKinds

  -- "Refused as having no graph means 10 or 11."
  abbrev pub NoGraph : Type 0
  NoGraph = TwoObjects ⊎ MixedKinds
