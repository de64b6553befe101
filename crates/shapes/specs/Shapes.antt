-- What the shapes of a type set's members say of a predicate, and the shape table. Assumes nothing.
use Rattle.std.specs.Prelude.{T, Bool, List, ◌↔◌, ◌≡◌, ℕ, ◌*◌, ◌+◌, ◌<◌}
use Rattle.meaning.specs.Limits.{literal_bit, max_predicates, max_types, multiplicity_room}
use Rattle.meaning.specs.Pack.{HasShape, Multiplicity, Setting, Shape, Target, type}
use Rattle.meaning.specs.Tables.{ShapeTable, cell_at, set_of_mask}
use Rattle.meaning.specs.TypeSet.{◌∈ₜ◌}

-- Some member of the mask's set has a shape for p of which Q holds.
pub record SomeShape (S : Setting) (mask p : ℕ) (Q : Shape → Type 0) : Type 0 where
  pub member : ℕ
  pub shape : Shape
  pub has : type member ∈ₜ set_of_mask mask
  pub declared : HasShape S member p shape
  pub holds : Q shape

-- The shapes' types and targets are among the types that a pack may have ("Types, at most 8", by card 14 12, and 7: "A number names no record").
pub record FewTypes (S : Setting) : Type 0 where
  pub owners : {t p : ℕ} {s : Shape} → HasShape S t p s → t < max_types
  pub targets : {t p u : ℕ} {s : Shape} → HasShape S t p s → s.target ≡ type u → u < max_types

-- The table is that of the setting's shapes.
pub record Tabled (S : Setting) (table : List (List ℕ)) : Type 0 where
  pub cells : ShapeTable S table
  pub few : FewTypes S

-- A cell's target code is at most Literal's.
abbrev pub CodesFit : List (List ℕ) → Type 0
CodesFit table = (t p : ℕ) → t < max_types → p < max_predicates → cell_at table t p < (literal_bit + 1) * multiplicity_room

-- "the targets of p in every shape of a member of X, required or not": r is the mask of their set
abbrev pub TargetsOf : List (List ℕ) → ℕ → ℕ → ℕ → Type 0
TargetsOf table mask p r = (S : Setting) → Tabled S table → (R : Target) → (R ∈ₜ set_of_mask r) ↔ SomeShape S mask p (λ s. s.target ≡ R)

-- some member's multiplicity for p passes the test
abbrev pub SomePasses : (Multiplicity → Bool) → List (List ℕ) → ℕ → ℕ → Bool → Type 0
SomePasses test table mask p r = (S : Setting) → Tabled S table → T r ↔ SomeShape S mask p (λ s. T (test s.multiplicity))
