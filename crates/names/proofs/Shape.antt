-- A shape's numbers, and whether it is good. Assumes nothing.
use borrow.Author.Tests.{ne_eqb}
use lib.Dec.{eqb, ltb}
use lib.ListN.{get_or, get_elem?, length}
use mathlib.Core.Bool.{Bool, ◌&&◌, ◌||◌}
use mathlib.Core.List.{List, [], ◌∷◌}
use mathlib.Core.Logic.{◌≢◌}
use mathlib.Core.Option.{some}
use mathlib.Core.Path.{◌≡◌, refl, ap}
use native.Mathlib.Omega.{arith}
use Prim.Native.Nat.{ℕ, ◌+◌, ◌*◌, ◌≤◌}
use Rattle.records.specs.Numbers.{target_number}
use Rattle.meaning.proofs.Lists.Members.{element}
use Rattle.meaning.specs.Limits.{literal_target, max_shapes, shapes_at, shape_width}
use Rattle.meaning.specs.Pack.{Literal, Pack, ShapeRecord, Target, multiplicity_number, type}
use Rattle.meaning.specs.WellFormed.{good_shape, good_target}
use Rattle.names.specs.PackGiven.{SettingGiven, ShapeAt}
use Rattle.names.proofs.Counted.{count_at_lem, held_at}
use Rattle.meaning.proofs.Lists.Parts.{first_is_at, number_at}

-- Literal's number, or a type's
target_good : (P : Pack) (s : Target) → s ≢ type literal_target
    → (eqb (target_number s) literal_target || ltb (target_number s) (length P.setting.types)) ≡ good_target P s
target_good P Literal f = refl
target_good P (type t) f = rw (ne_eqb t literal_target (λ e. f (ap type e)))

module _ {P : Pack} {counts numbers : List ℕ} (g : SettingGiven P counts numbers) where
  -- by the numbers at a place
  abbrev pub shape_good : ℕ → Bool
  shape_good at =
      ltb (get_or numbers at 0) (get_or counts 3 0) && ltb (get_or numbers (at + 1) 0) (get_or counts 4 0)
      && (eqb (get_or numbers (at + 2) 0) literal_target || ltb (get_or numbers (at + 2) 0) (get_or counts 3 0))

  pub shape_good_lem : {at : ℕ} {x : ShapeRecord} → ShapeAt x numbers at → shape_good at ≡ good_shape P x
  shape_good_lem {at} {x} s =
      let l : List ℕ = x.owner ∷ x.predicate ∷ target_number x.shape.target ∷ multiplicity_number x.shape.multiplicity ∷ [] in
      rw (
        first_is_at numbers l at shape_width s.are (omega arith),
        number_at numbers l at shape_width s.are 1 (omega arith),
        number_at numbers l at shape_width s.are 2 (omega arith),
        count_at_lem g 3 (omega arith),
        count_at_lem g 4 (omega arith),
        target_good P x.shape.target s.bound,
      )

  pub shapes_many : get_or counts 5 0 ≡ length P.setting.shapes
  shapes_many = count_at_lem g 5 (omega arith)

  pub shapes_few : get_or counts 5 0 ≤ max_shapes
  shapes_few = omega (arith, shapes_many, g.bounds.shapes)

  pub shape_at : (i : ℕ) (x : ShapeRecord) → get_elem? P.setting.shapes i ≡ some x → ShapeAt x numbers (shapes_at + i * shape_width)
  shape_at i x e = record { are = held_at g.bare.shapes i x e; bound = g.bounds.target x (element P.setting.shapes i x e) }
