-- What refusals 4 and 7 leave of a pack's rows, and refusal 8 of the pack that the numbers hold. Assumes nothing.
use lib.Dec.{T}
use lib.ListN.{drop, get_or, length, length-drop, take}
use lib.Seq.{length-take-le}
use mathlib.Core.Bool.{Bool, false}
use mathlib.Core.List.{List}
use mathlib.Core.Path.{◌≡◌, sym, subst, ◌∙◌}
use native.Mathlib.Nat.{mul-le-mul_right, suc-mul}
use native.Mathlib.Omega.{arith}
use Prim.Native.Nat.{ℕ, ◌+◌, ◌-◌, ◌*◌, ◌≤◌, ◌<◌}
use Rattle.records.specs.PackHeld.{RecordsHeld}
use Rattle.meaning.proofs.Lists.Places.{inside}
use Rattle.meaning.proofs.Model.Resolved.{resolved}
use Rattle.meaning.specs.Limits.{dependencies_at, dependency_width, max_columns, max_values, row_width}
use Rattle.meaning.specs.Member.{◌∈◌}
use Rattle.meaning.specs.Pack.{Pack, Row}
use Rattle.meaning.specs.WellFormed.{broken, dangling, has_arity}
use Rattle.meaning.proofs.Lists.Parts.{slice_by, take_slice}
use Rattle.meaning.specs.Tables.{RowsHeld}
use Rattle.names.proofs.Good.{row_good, same_arity}
use Rattle.names.proofs.Dependency.{dependencies_few, dependencies_many}
use Rattle.names.specs.PackGiven.{Resolved}
use Rattle.depends.specs.Answer.{DependenciesHeld, Even, SaysBroken}

-- ---- rows of one relation have as many cells

module _ (P : Pack) (not-7 : dangling P ≡ false) where
  even_rows : length P.setting.values ≤ max_values → ((x : Row) → x ∈ P.rows → length x.cells ≤ max_columns) → Even P.rows
  even_rows few short = record {
    short = short;
    alike = λ x y i j e.
        same_arity P.setting.arities y.relation (length x.cells) (length y.cells)
        (subst (λ (r : ℕ). T (has_arity P.setting.arities r (length x.cells))) e (row_good P not-7 x i)) (row_good P not-7 y j);
    values = λ x i v j. omega (arith, (resolved P not-7).cells x i v j, few);
  }

-- ---- the numbers of a pack, as they are lent

-- a body's part of the numbers
pub held_part : {A : Type 0} {N : A → List ℕ → Type 0} (w : ℕ) {xs : List A} {at : ℕ} {numbers : List ℕ} → RecordsHeld N w xs at numbers
    → RecordsHeld N w xs 0 (take (length xs * w) (drop at numbers))
held_part {A} {N} w {xs} {at} {numbers} h = record {
  each = λ i x e. subst (N x) (sym (part (drop at numbers) i (length xs) (inside xs i x e))) (h.each i x e);
}
  where
    part : (l : List ℕ) (i n : ℕ) → i < n → take w (drop (i * w) (take (n * w) l)) ≡ take w (drop (i * w) l)
    part l i n k =
        let m : i * w + w ≤ n * w = omega (arith, mul-le-mul_right w k, suc-mul i w) in
        take_slice w (i * w) (n * w) l m ∙ sym (slice_by (i * w) w l)

-- what is said of the dependencies' and the rows' parts is said of the pack
module _ {P : Pack} {counts numbers rows : List ℕ} (g : Resolved P counts numbers rows) where
  even : Even P.rows
  even = even_rows P g.resolved g.given.setting.bounds.values (λ x i. (g.given.setting.bounds.row x i).short)

  pub part_end : dependencies_at + get_or counts 2 0 * dependency_width ≤ length numbers
  part_end = omega (arith, dependencies_few g.given.setting, g.given.setting.long)

  part : DependenciesHeld P.setting.dependencies (take (get_or counts 2 0 * dependency_width) (drop dependencies_at numbers))
  part = rw (dependencies_many g.given.setting) (record {
    many = length-take-le (length P.setting.dependencies * dependency_width) (drop dependencies_at numbers)
        (omega (arith, part_end, dependencies_many g.given.setting, length-drop dependencies_at numbers));
    held = held_part dependency_width g.given.setting.bare.dependencies;
  })

  its_rows : RowsHeld P.rows (take (get_or counts 8 0 * row_width) rows)
  its_rows = let e : get_or counts 8 0 * row_width ≡ row_width * length P.rows = omega (arith, g.given.many) in rw e g.given.holds_rows

  -- as a part of a slice is written
  pub broken_of : {r : Bool} → SaysBroken (take (dependencies_at + get_or counts 2 0 * dependency_width - dependencies_at) (drop dependencies_at numbers)) (take (get_or counts 8 0 * row_width) rows) r
      → r ≡ broken P
  unfolding broken
  broken_of says =
      let e : dependencies_at + get_or counts 2 0 * dependency_width - dependencies_at ≡ get_or counts 2 0 * dependency_width = omega arith in
      says P.setting.dependencies P.rows (rw e part) its_rows even
