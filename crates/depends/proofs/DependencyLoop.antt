-- The loop over the dependencies: rows keep each before dependency i. Assumes nothing.
use lib.ListN.{drop, drop_of_length-le, length}
use mathlib.Core.Bool.{Bool, true, false, ◌||◌}
use mathlib.Core.List.{List}
use mathlib.Core.Path.{◌≡◌, refl, sym, ap, ◌∙◌}
use native.Mathlib.Omega.{arith}
use Prim.Native.Nat.{ℕ, ◌+◌, ◌/◌, ◌≤◌, ◌<◌}
use Rattle.meaning.specs.Limits.{dependency_width, max_rows, rows_length}
use Rattle.meaning.specs.Pack.{Dependency, Row}
use Rattle.meaning.specs.Tables.{RowsHeld}
use Rattle.meaning.specs.Tests.{any, any_two}
use Rattle.meaning.specs.WellFormed.{breaks}
use Rattle.depends.specs.Answer.{DependenciesHeld, Even, SaysBreaks, SaysBroken}
use Rattle.depends.proofs.HeldRows.{dependencies_counted, dependency_at_lem, dependency_at}

abbrev broke : List Row → Dependency → Bool
broke rs d = any_two (breaks d) rs

pub record Asking (dependencies rows lefts rights : List ℕ) (count i : ℕ) : Type 0 where
  pub long : length rows ≤ rows_length
  pub counted : count ≡ length dependencies / dependency_width
  pub before : i ≤ count
  pub lefts_long : length lefts ≡ max_rows
  pub rights_long : length rights ≡ max_rows
  is : (ds : List Dependency) (rs : List Row) → DependenciesHeld ds dependencies → RowsHeld rs rows → Even rs → any (broke rs) (drop i ds) ≡ any (broke rs) ds

pub asking_start : (dependencies rows lefts rights : List ℕ) (count : ℕ) → length rows ≤ rows_length → count ≡ length dependencies / dependency_width
    → length lefts ≡ max_rows → length rights ≡ max_rows → Asking dependencies rows lefts rights count 0
asking_start dependencies rows lefts rights count l e h g = record {
  long = l;
  counted = e;
  before = omega arith;
  lefts_long = h;
  rights_long = g;
  is = λ ds rs a b v. refl;
}

module _ {dependencies rows lefts rights : List ℕ} {count i : ℕ} (p : Asking dependencies rows lefts rights count i) where
  pub asking_done : count ≤ i → SaysBroken dependencies rows false
  asking_done h ds rs a b v =
      let g : length ds ≤ i = omega (arith, h, p.counted, dependencies_counted a) in
      ap (any (broke rs)) (sym (drop_of_length-le ds g)) ∙ p.is ds rs a b v

  module _ (h : i < count) where
    -- what is said of dependency i
    module _ {r : Bool} (e : SaysBreaks (dependency_at dependencies i) rows r) where
      next : (ds : List Dependency) (rs : List Row) → DependenciesHeld ds dependencies → RowsHeld rs rows → Even rs → (r || any (broke rs) (drop (i + 1) ds)) ≡ any (broke rs) ds
      next ds rs a b v =
          ap (λ z. z || any (broke rs) (drop (i + 1) ds)) (e rs b v)
          ∙ ap (any (broke rs)) (sym (dependency_at_lem a i (omega (arith, h, p.counted, dependencies_counted a)))) ∙ p.is ds rs a b v

      pub asking_found : r ≡ true → SaysBroken dependencies rows true
      asking_found t ds rs a b v = ap (λ z. z || any (broke rs) (drop (i + 1) ds)) (sym t) ∙ next ds rs a b v

      pub asking_on : (lefts' rights' : List ℕ) → r ≡ false → length lefts' ≡ max_rows → length rights' ≡ max_rows → Asking dependencies rows lefts' rights' count (i + 1)
      asking_on lefts' rights' t k l = record {
        long = p.long;
        counted = p.counted;
        before = omega (arith, h);
        lefts_long = k;
        rights_long = l;
        is = λ ds rs a b v. ap (λ z. z || any (broke rs) (drop (i + 1) ds)) (sym t) ∙ next ds rs a b v;
      }
