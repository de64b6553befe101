-- Types passed along the triples: the least set. Assumes nothing.
use Rattle.std.specs.Prelude.{get_or, length, List, [], ◌∷◌, ◌↔◌, ◌⊎◌, ◌≡◌, ℕ, ◌+◌, ◌-◌, ◌<◌}
use Rattle.spread.specs.Keys.{object_of, predicate_of, subject_of}
use Rattle.meaning.specs.Limits.{max_core_nodes, max_predicates}
use Rattle.meaning.specs.Member.{◌∈◌}
use Rattle.meaning.specs.Pack.{HasShape, Setting, Shape, Target, type}
use Rattle.meaning.specs.Tables.{set_of_mask}
use Rattle.meaning.specs.TypeSet.{◌∈ₜ◌}
use Rattle.shapes.specs.Shapes.{SomeShape, Tabled}

-- Its places are those of nodes, its predicate is one of the pack's.
pub record TripleFits (k : ℕ) : Type 0 where
  pub from : subject_of k < max_core_nodes
  pub named : predicate_of k < max_predicates
  pub to : object_of k < max_core_nodes

abbrev pub AllTriplesFit : List ℕ → Type 0
AllTriplesFit triples = (k : ℕ) → k ∈ triples → TripleFits k

-- ---- the least set

-- "each type passed along an edge: if the subject has type T and T's shape for p has target S, the object has S", over
-- places, from the types that the masks hold at the start
pub data Passed (S : Setting) (triples start : List ℕ) : ℕ → Target → Type 0 where
  held : {i : ℕ} {R : Target} → R ∈ₜ set_of_mask (get_or start i 0) → Passed S triples start i R
  along : {k i t : ℕ} {shape : Shape} {R : Target} → k ∈ triples → Passed S triples start (subject_of k) (type t)
      → HasShape S t (predicate_of k) shape → i ≡ object_of k → shape.target ≡ R → Passed S triples start i R

-- after holds exactly these
abbrev pub SpreadFrom : List (List ℕ) → List ℕ → List ℕ → List ℕ → Type 0
SpreadFrom table triples start after =
    (S : Setting) → Tabled S table → (i : ℕ) (R : Target) → (R ∈ₜ set_of_mask (get_or after i 0)) ↔ Passed S triples start i R

-- ---- one triple

-- the triple passes R to place i, by the masks
pub record Passes (S : Setting) (masks : List ℕ) (k i : ℕ) (R : Target) : Type 0 where
  pub to : i ≡ object_of k
  pub shape : SomeShape S (get_or masks (subject_of k) 0) (predicate_of k) (λ s. s.target ≡ R)

-- after holds what before holds and what the triple passes
abbrev pub PassedOnce : Setting → ℕ → List ℕ → List ℕ → Type 0
PassedOnce S k before after =
    (i : ℕ) (R : Target) → (R ∈ₜ set_of_mask (get_or after i 0)) ↔ ((R ∈ₜ set_of_mask (get_or before i 0)) ⊎ Passes S before k i R)

abbrev pub PassShown : List (List ℕ) → ℕ → List ℕ → List ℕ → Type 0
PassShown table k before after = (S : Setting) → Tabled S table → PassedOnce S k before after

-- Each triple's object has the targets of what passed last along the triple.
pub record Carried (S : Setting) (triples passed masks : List ℕ) : Type 0 where
  pub held : (i : ℕ) → i < length triples → (R : Target) → SomeShape S (get_or passed i 0) (predicate_of (get_or triples i 0)) (λ s. s.target ≡ R)
      → R ∈ₜ set_of_mask (get_or masks (object_of (get_or triples i 0)) 0)

-- how far the masks are from full, as numbers
abbrev pub mask_room : List ℕ → ℕ
mask_room [] = 0
mask_room (m ∷ ms) = (65535 - m) + mask_room ms
