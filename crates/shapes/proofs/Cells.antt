-- What a cell says of the shape that it holds. Assumes nothing.
use mathlib.Core.List.{List}
use mathlib.Core.Option.{Option, none, some}
use mathlib.Core.Path.{◌≡◌, refl, ◌∙◌}
use native.Mathlib.Omega.{arith}
use Prim.Native.Nat.{ℕ, ◌/◌, ◌%◌, ◌≤◌, ◌<◌}
use Rattle.meaning.specs.Limits.{max_predicates, max_types, multiplicity_room}
use Rattle.meaning.specs.Pack.{HasShape, Multiplicity, Setting, Shape, any_number, at_least_one, multiplicity_number, one, optional, shape_of}
use Rattle.meaning.specs.Tables.{ShapeTable, cell_at, cell_of, target_code}

pub multiplicity_small : (m : Multiplicity) → (1 ≤ multiplicity_number m) × (multiplicity_number m < multiplicity_room)
multiplicity_small one = (omega arith, omega arith)
multiplicity_small optional = (omega arith, omega arith)
multiplicity_small any_number = (omega arith, omega arith)
multiplicity_small at_least_one = (omega arith, omega arith)

module _ (s : Shape) where
  pub cell_held : cell_of (some s) ≡ 0 → ⊥
  cell_held e = omega (arith, multiplicity_small s.multiplicity)

  pub cell_target : cell_of (some s) / multiplicity_room ≡ target_code s.target
  cell_target = omega (arith, multiplicity_small s.multiplicity)

  pub cell_multiplicity : cell_of (some s) % multiplicity_room ≡ multiplicity_number s.multiplicity
  cell_multiplicity = omega (arith, multiplicity_small s.multiplicity)

-- the shape of a cell that is not 0
module _ {S : Setting} {table : List (List ℕ)} (tab : ShapeTable S table) {t p : ℕ} (ht : t < max_types) (hp : p < max_predicates) where
  pub held_shape : (cell_at table t p ≡ 0 → ⊥) → (s : Shape) × HasShape S t p s × (cell_at table t p ≡ cell_of (some s))
  held_shape n = go (shape_of S t p) refl
    where
      go : (o : Option Shape) → shape_of S t p ≡ o → (s : Shape) × HasShape S t p s × (cell_at table t p ≡ cell_of (some s))
      go none e = absurd (n (tab.cells t p ht hp ∙ rw e))
      go (some s) e = (s, record { is = e }, tab.cells t p ht hp ∙ rw e)

  pub shape_held : (s : Shape) → HasShape S t p s → cell_at table t p ≡ cell_of (some s)
  shape_held s h = tab.cells t p ht hp ∙ rw h.is
