-- What shapes demand of a predicate, as one number: the weights of targets, and a weight that no target has where an edge is
-- required. Assumes nothing.
use Rattle.std.specs.Int.Bits.{bit_and, bit_or}
use Rattle.std.specs.Prelude.{T, eqb, get_or, Bool, true, false, List, ◌↔◌, ◌≡◌, ℕ, ◌-◌, ◌/◌, ◌%◌, ◌^◌, ◌<◌}
use Rattle.std.proofs.Math.Option.{Option, none, some}
use Rattle.meaning.specs.Limits.{literal_bit, literal_weight, max_predicates, max_types, type_sets}
use Rattle.meaning.specs.Pack.{Setting, Shape, Target, requires, shape_of}
use Rattle.meaning.specs.Tables.{cell_at, cell_of, set_of_mask, target_code}
use Rattle.meaning.specs.TypeSet.{◌∈ₜ◌}
use Rattle.shapes.specs.Shapes.{FewTypes, SomeShape, Tabled}

abbrev pub required_bit : ℕ  -- above those of the types, and not Literal's
required_bit = literal_bit - 1

abbrev pub target_weights : ℕ  -- those of all types and of Literal
target_weights = bit_or (type_sets - 1) literal_weight

-- the targets, as a mask, and whether an edge is required
abbrev pub targets_in : ℕ → ℕ
targets_in demand = bit_and demand target_weights

abbrev pub required_in : ℕ → Bool
required_in demand = eqb (demand / 2 ^ required_bit % 2) 1

-- what one shape demands
abbrev pub required_weight : Bool → ℕ
required_weight true = 2 ^ required_bit
required_weight false = 0

abbrev pub demand_of : Option Shape → ℕ
demand_of none = 0
demand_of (some s) = bit_or (2 ^ target_code s.target) (required_weight (requires s.multiplicity))

-- ---- the demands of one type: of a cell's shape, of a row's, of the table's

abbrev pub CellDemand : ℕ → ℕ → Type 0
CellDemand cell r = (o : Option Shape) → cell ≡ cell_of o → r ≡ demand_of o

abbrev pub RowDemands : List (List ℕ) → ℕ → List ℕ → Type 0
RowDemands table t r = (p : ℕ) → p < max_predicates → CellDemand (cell_at table t p) (get_or r p 0)

-- The table is that of what the setting's shapes demand.
pub record Demanded (S : Setting) (demands : List (List ℕ)) : Type 0 where
  pub cells : (t p : ℕ) → t < max_types → p < max_predicates → cell_at demands t p ≡ demand_of (shape_of S t p)
  pub few : FewTypes S

abbrev pub TableDemands : List (List ℕ) → List (List ℕ) → Type 0
TableDemands table r = (S : Setting) → Tabled S table → Demanded S r

-- ---- the demands of a set

-- "the targets of p in every shape of a member of X, required or not", and whether some member requires p
pub record Demand (S : Setting) (mask p demand : ℕ) : Type 0 where
  pub targets : (R : Target) → (R ∈ₜ set_of_mask (targets_in demand)) ↔ SomeShape S mask p (λ s. s.target ≡ R)
  pub needs : T (required_in demand) ↔ SomeShape S mask p (λ s. T (requires s.multiplicity))

-- those of type t joined to all
abbrev pub IsJoined : List ℕ → List (List ℕ) → ℕ → List ℕ → Type 0
IsJoined all table t r = (p : ℕ) → p < max_predicates → get_or r p 0 ≡ bit_or (get_or all p 0) (cell_at table t p)

abbrev pub DemandsOf : List (List ℕ) → ℕ → List ℕ → Type 0
DemandsOf table mask r = (S : Setting) → Demanded S table → (p : ℕ) → p < max_predicates → Demand S mask p (get_or r p 0)
