-- What a search for refusal 11 answers. Assumes nothing.
use Rattle.std.specs.Prelude.{T, eqb, leb, ltb, get_or, length, Bool, cond, not, List, ◌↔◌, ℕ, ◌%◌, ◌<◌}
use Rattle.core_lists.specs.Input.{Input}
use Rattle.invent.specs.Invent.{InventedSets}
use Rattle.meaning.specs.Limits.{first_literal, literal_weight, member_sets, type_sets}
use Rattle.meaning.specs.NoGraph.{MixedKinds}
use Rattle.meaning.specs.Pack.{Pack}
use Rattle.worklist.specs.Table.{Marked}

-- Q at some number from a on, below n
pub record Somewhere (Q : ℕ → Type 0) (n : ℕ) : Type 0 where
  pub at : ℕ
  pub below : at < n
  pub holds : Q at

-- an IRI's key with Literal, or a literal's with a type
unfoldable pub mixed_node : ℕ → ℕ → Bool
mixed_node key mask = cond (ltb key first_literal) (leb literal_weight mask) (not (eqb (mask % literal_weight) 0))

-- "a core literal has a type, a core IRI has Literal"
abbrev pub MixedCore : List ℕ → List ℕ → Type 0
MixedCore nodes masks = Somewhere (λ i. T (mixed_node (get_or nodes i 0) (get_or masks i 0))) (length nodes)

-- "an invented node's set holds Literal and a type": the set is marked
pub record MixedFlag (flags : List ℕ) (j : ℕ) : Type 0 where
  pub above : type_sets < j
  pub set : Marked flags j

abbrev pub MixedFlags : List ℕ → Type 0
MixedFlags flags = Somewhere (MixedFlag flags) member_sets

abbrev pub MixedShown : List ℕ → List ℕ → List ℕ → Bool → Type 0
MixedShown nodes masks flags r =
    (P : Pack) (table : List (List ℕ)) (triples : List ℕ) → Input P table nodes triples masks → InventedSets P flags → T r ↔ MixedKinds P
