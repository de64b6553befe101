-- A test on a multiplicity's number: one of two numbers. Assumes nothing.
use borrow.Author.Tests.{eq-eqb, ne_eqb}
use lib.Dec.{eqb}
use mathlib.Core.Bool.{Bool, ◌||◌}
use mathlib.Core.Logic.{◌≢◌}
use mathlib.Core.Path.{◌≡◌, refl, sym, ◌∙◌, subst}
use Prim.Native.Nat.{ℕ}
use Rattle.meaning.specs.Pack.{AnswersTest, Multiplicity, any_number, at_least_one, limits, multiplicity_number, one, optional, requires}

-- the test is true of the numbers a and b alone
abbrev OneOf : (Multiplicity → Bool) → ℕ → ℕ → Type 0
OneOf test a b = (m : Multiplicity) → eqb (multiplicity_number m) a || eqb (multiplicity_number m) b ≡ test m

pub requires_one_of : OneOf requires 1 4
requires_one_of one = refl
requires_one_of optional = refl
requires_one_of any_number = refl
requires_one_of at_least_one = refl

pub limits_one_of : OneOf limits 1 2
limits_one_of one = refl
limits_one_of optional = refl
limits_one_of any_number = refl
limits_one_of at_least_one = refl

module _ (test : Multiplicity → Bool) (a b : ℕ) (rule : OneOf test a b) where
  pub first_number_lem : (n : ℕ) → n ≡ a → AnswersTest test n (eqb n a)
  first_number_lem n h m e =
      let t = eq-eqb n a h in t ∙ (rw t at (subst (λ x. eqb x a || eqb x b ≡ test m) (sym e) (rule m)))

  pub second_number_lem : (n : ℕ) → n ≢ a → AnswersTest test n (eqb n b)
  second_number_lem n h m e = let t = ne_eqb n a h in rw t at (subst (λ x. eqb x a || eqb x b ≡ test m) (sym e) (rule m))
