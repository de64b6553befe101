-- What a shape demands, as bits: its target's, and another if it requires an edge. Assumes nothing.
use lib.Bits.{bit_or, and_le_r, or_zero_r}
use lib.Dec.{T}
use lib.ListN.{get_or}
use mathlib.Core.Bool.{Bool, true, false}
use mathlib.Core.List.{List, []}
use mathlib.Core.Logic.{◌↔◌, ◌⊎◌, inl, inr}
use mathlib.Core.Option.{none, some}
use mathlib.Core.Path.{◌≡◌, refl, sym, ◌∙◌, subst}
use borrow.Author.Tests.{eq-eqb, eqb-true}
use native.Mathlib.Decide.{ℕ_discrete}
use native.Mathlib.Omega.{arith}
use Prim.Native.Nat.{ℕ, ◌+◌, ◌-◌, ◌*◌, ◌/◌, ◌%◌, ◌^◌, ◌<◌}
use Rattle.meaning.proofs.Lists.Bits.{bit_one, bit_other, bit_shift, zero_bits}
use Rattle.meaning.proofs.Lists.Masks.{bit_small, intersection_member, low_member, union_member, weight_made}
use Rattle.meaning.specs.Limits.{literal_bit, literal_weight, max_types, multiplicity_room, type_sets}
use Rattle.meaning.specs.Pack.{AnswersTest, Shape, Target, Literal, multiplicity_number, requires, shape_of, type}
use Rattle.meaning.specs.Tables.{set_of_mask, target_code}
use Rattle.meaning.specs.TypeSet.{bit, ◌∈ₜ◌}
use Rattle.shapes.specs.Demands.{CellDemand, RowDemands, TableDemands, demand_of, required_bit, required_in, required_weight, target_weights, targets_in}
use Rattle.shapes.proofs.Cells.{cell_held, cell_multiplicity, cell_target}
use Rattle.shapes.proofs.Sets.{type_in}

-- ---- the bits of a demand

weight_only : (j u : ℕ) → bit j (2 ^ u) ≡ 1 → j ≡ u
weight_only j u e = go (ℕ_discrete j u)
  where
    go : Dec (j ≡ u) → j ≡ u
    go (yes q) = q
    go (no n) = absurd (omega (arith, bit_other j u n, e))

required_only : (j : ℕ) (b : Bool) → bit j (required_weight b) ≡ 1 → (j ≡ required_bit) × T b
required_only j true e = (weight_only j required_bit e, tt)
required_only j false e = absurd (omega (arith, zero_bits j, e))

module _ (s : Shape) where
  abbrev code : ℕ
  code = target_code s.target

  abbrev weight : ℕ
  weight = required_weight (requires s.multiplicity)

  pub demand_target : (j : ℕ) → (j ≡ required_bit → ⊥) → (bit j (demand_of (some s)) ≡ 1) ↔ (j ≡ code)
  demand_target j n = (λ e. go ((union_member j (2 ^ code) weight).0 e), λ q. (union_member j (2 ^ code) weight).1 (inl (rw q (bit_one code))))
    where
      go : (bit j (2 ^ code) ≡ 1) ⊎ (bit j weight ≡ 1) → j ≡ code
      go (inl e) = weight_only j code e
      go (inr e) = absurd (n (required_only j (requires s.multiplicity) e).0)

  pub demand_required : (code ≡ required_bit → ⊥) → (bit required_bit (demand_of (some s)) ≡ 1) ↔ T (requires s.multiplicity)
  demand_required n = (
    λ e. go ((union_member required_bit (2 ^ code) weight).0 e),
    λ h. (union_member required_bit (2 ^ code) weight).1 (inr (weighs (requires s.multiplicity) h)),
  )
    where
      go : (bit required_bit (2 ^ code) ≡ 1) ⊎ (bit required_bit weight ≡ 1) → T (requires s.multiplicity)
      go (inl e) = absurd (n (sym (weight_only required_bit code e)))
      go (inr e) = (required_only required_bit (requires s.multiplicity) e).1

      weighs : (b : Bool) → T b → bit required_bit (required_weight b) ≡ 1
      weighs true h = bit_one required_bit
      weighs false h = absurd h

-- whether an edge is required is a bit
pub required_bit_lem : (demand : ℕ) → T (required_in demand) ↔ (bit required_bit demand ≡ 1)
required_bit_lem demand = (
  λ h. bit_shift required_bit demand ∙ eqb-true (demand / 2 ^ required_bit % 2) 1 (is_true _ h),
  λ e. subst T (sym (eq-eqb (demand / 2 ^ required_bit % 2) 1 (sym (bit_shift required_bit demand) ∙ e))) tt,
)
  where
    is_true : (b : Bool) → T b → b ≡ true
    is_true true h = refl
    is_true false h = absurd h

-- a target's bit is one of those of targets, and no other type's is
type_bit : (t : ℕ) → t < max_types → bit t target_weights ≡ 1
type_bit t h = (union_member t (type_sets - 1) literal_weight).1 (inl ((intersection_member t (2 ^ t) (type_sets - 1)).0 ((low_member max_types t (2 ^ t)).1 (h, bit_one t))).1)

pub target_bit : (R : Target) → ((t : ℕ) → R ≡ type t → t < max_types) → bit (target_code R) target_weights ≡ 1
target_bit Literal h = (union_member literal_bit (type_sets - 1) literal_weight).1 (inr (bit_one literal_bit))
target_bit (type t) h = type_bit t (h t refl)

pub not_target : (j : ℕ) → bit j target_weights ≡ 1 → j ≡ required_bit → ⊥
not_target j e q = go ((union_member j (type_sets - 1) literal_weight).0 e)
  where
    go : (bit j (type_sets - 1) ≡ 1) ⊎ (bit j literal_weight ≡ 1) → ⊥
    go (inl b) = let l = bit_small max_types j (type_sets - 1) b (omega arith) in omega arith
    go (inr b) = let l = weight_only j literal_bit b in omega arith

pub targets_lt : (demand : ℕ) → targets_in demand < 2 ^ 16
targets_lt demand = omega (arith, and_le_r demand target_weights)

pub targets_few : (demand t : ℕ) → type t ∈ₜ set_of_mask (targets_in demand) → t < max_types
targets_few demand t i = go ((union_member t (type_sets - 1) literal_weight).0 ((intersection_member t demand target_weights).0 q.1).1)
  where
    q : (t < literal_bit) × (bit t (targets_in demand) ≡ 1)
    q = (type_in t (targets_in demand)).0 i

    go : (bit t (type_sets - 1) ≡ 1) ⊎ (bit t literal_weight ≡ 1) → t < max_types
    go (inl b) = bit_small max_types t (type_sets - 1) b (omega arith)
    go (inr b) = absurd (let l = weight_only t literal_bit b in omega (arith, q.0))

-- ---- a cell's demand

pub no_demand : {cell : ℕ} → cell ≡ 0 → CellDemand cell 0
no_demand e none q = refl
no_demand e (some s) q = absurd (cell_held s (sym q ∙ e))

module _ {cell : ℕ} (n : cell ≡ 0 → ⊥) (small : cell < (literal_bit + 1) * multiplicity_room) {r : Bool} (a : AnswersTest requires (cell % multiplicity_room) r) where
  made : 1 * 2 ^ (cell / multiplicity_room) % 2 ^ 16 ≡ 2 ^ (cell / multiplicity_room)
  made = weight_made 16 (cell / multiplicity_room) (omega arith)

  demand : CellDemand cell (bit_or (1 * 2 ^ (cell / multiplicity_room) % 2 ^ 16) (required_weight r))
  demand none q = absurd (n q)
  demand (some s) q =
      let c : cell / multiplicity_room ≡ target_code s.target = rw q (cell_target s) in
      let m : cell % multiplicity_room ≡ multiplicity_number s.multiplicity = rw q (cell_multiplicity s) in
      rw (made, c, a s.multiplicity m)

  pub demand_requires : r ≡ true → CellDemand cell (bit_or (1 * 2 ^ (cell / multiplicity_room) % 2 ^ 16) (2 ^ required_bit))
  demand_requires e = rw e at demand

  pub demand_allows : r ≡ false → CellDemand cell (1 * 2 ^ (cell / multiplicity_room) % 2 ^ 16)
  demand_allows e = rw or_zero_r at (rw e at demand)

-- ---- the table, row by row

pub table_demanded : {table r : List (List ℕ)} → ((t : ℕ) → t < max_types → RowDemands table t (get_or r t [])) → TableDemands table r
table_demanded f S tab = record { cells = λ t p ht hp. f t ht p hp (shape_of S t p) (tab.cells.cells t p ht hp); few = tab.few }
