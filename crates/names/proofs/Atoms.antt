-- Atoms' numbers, one atom after another. Assumes nothing.
use lib.ListN.{drop, get_or, get_elem?, length, replicate, take}
use lib.Seq.{slice}
use mathlib.Core.Bool.{Bool}
use mathlib.Core.List.{List}
use mathlib.Core.Option.{some}
use mathlib.Core.Path.{◌≡◌, ap, ◌∙◌}
use native.Mathlib.Omega.{arith}
use Prim.Native.Nat.{ℕ, suc, ◌+◌, ◌*◌, ◌≤◌, ◌<◌}
use Rattle.meaning.specs.Limits.{atom_width, max_columns}
use Rattle.meaning.specs.Pack.{Atom, Pack}
use Rattle.meaning.specs.Tables.{atom_numbers}
use Rattle.meaning.specs.Tests.{elem}
use Rattle.meaning.specs.WellFormed.{good_atom, has_arity}
use Rattle.meaning.proofs.Lists.Members.{element}
use Rattle.meaning.proofs.Lists.Padding.{unpadded}
use Rattle.meaning.proofs.Lists.Places.{there_is}
use Rattle.names.specs.Rule.{AtomsAt}
use Rattle.names.proofs.Counted.{held_at}
use Rattle.meaning.proofs.Lists.Parts.{first_is_at, number_at, slice_at}

module _ {as' : List Atom} {numbers : List ℕ} {first n : ℕ} (g : AtomsAt as' numbers first n) where
  module _ (i : ℕ) (a : Atom) (e : get_elem? as' i ≡ some a) where
    abbrev at : ℕ
    at = first + i * atom_width

    are : take atom_width (drop at numbers) ≡ atom_numbers a
    are = held_at g.held i a e

    count_is : get_or numbers (at + 1) 0 ≡ length a.variables
    count_is = number_at numbers (atom_numbers a) at atom_width are 1 (omega arith)

    variables_are : slice (at + 2) (at + 2 + length a.variables) numbers ≡ a.variables
    variables_are =
        let s = g.short a (element as' i a e) in
        let m : at + 2 + length a.variables ≡ at + suc (suc (length a.variables)) = omega arith in
        ap (λ (k : ℕ). slice (at + 2) k numbers) m ∙ slice_at numbers (atom_numbers a) at atom_width are 2 (suc (suc (length a.variables))) (omega (arith, s))
        ∙ unpadded a.variables (replicate max_columns 0) max_columns s

    -- whether its relation is there with as many columns, by its numbers
    pub atom_good : (P : Pack) {b : Bool} → b ≡ has_arity P.setting.arities (get_or numbers at 0) (get_or numbers (at + 1) 0) → b ≡ good_atom P a
    atom_good P h = rw (first_is_at numbers (atom_numbers a) at atom_width are (omega arith), count_is) at h

    -- whether it has a variable
    pub atom_holds : (v : ℕ) {b : Bool} → b ≡ elem v (slice (at + 2) (at + 2 + get_or numbers (at + 1) 0) numbers) → b ≡ elem v a.variables
    atom_holds v h = rw (count_is, variables_are) at h

  -- room for what is read
  pub atom_room : (i : ℕ) → i < n → first + i * atom_width + atom_width ≤ length numbers
  atom_room i h = omega (arith, g.room)

  pub variables_few : (i : ℕ) → i < n → get_or numbers (first + i * atom_width + 1) 0 ≤ max_columns
  variables_few i h =
      let q = there_is as' i (omega (arith, g.many)) in
      omega (arith, count_is i q.0 q.1, g.short q.0 (element as' i q.0 q.1))
