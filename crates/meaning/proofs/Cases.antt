-- Case analysis on a test, on an option, on two numbers and on a number's lowest digit, with the equation kept; tests joined. Assumes nothing.
use borrow.Author.Tests.{ltb-true, ltb-false}
use lib.Dec.{ltb}
use mathlib.Core.Bool.{Bool, true, false, ◌&&◌, ◌||◌, true≢false}
use mathlib.Core.Option.{Option, none, some}
use mathlib.Core.Path.{◌≡◌, refl, sym, ◌∙◌}
use native.Mathlib.Omega.{arith}
use Prim.Native.Nat.{ℕ, zero, suc, ◌+◌, ◌≤◌, ◌<◌, ◌%◌}

pub case_on : {P : Type 0} (b : Bool) → (b ≡ true → P) → (b ≡ false → P) → P
case_on true f g = f refl
case_on false f g = g refl

pub case_some : {A P : Type 0} (o : Option A) → (o ≡ none → P) → ((a : A) → o ≡ some a → P) → P
case_some none f g = f refl
case_some (some a) f g = g a refl

pub case_lt : {P : Type 0} (a b : ℕ) → (a < b → P) → (b ≤ a → P) → P
case_lt a b f g = case_on (ltb a b) (λ e. f (ltb-true a b e)) (λ e. g (ltb-false a b e))

pub case_last : {P : Type 0} {n : ℕ} (k : ℕ) → k < n + 1 → (k < n → P) → (k ≡ n → P) → P
case_last {n = n} k h f g = case_lt k n f (λ l. g (omega arith))

pub even_or_odd : {P : Type 0} (n : ℕ) → (n % 2 ≡ 0 → P) → (n % 2 ≡ 1 → P) → P
even_or_odd {P} n f g = go (n % 2) refl
  where
    go : (r : ℕ) → n % 2 ≡ r → P
    go zero e = f e
    go (suc zero) e = g e
    go (suc (suc r)) e = absurd (let h : n % 2 < 2 = omega arith in omega arith)

pub and_both : (a b : Bool) → (a && b) ≡ true → (a ≡ true) × (b ≡ true)
and_both true b h = (refl, h)
and_both false b h = absurd (let z : ◌≡◌ {A = ℕ} 0 1 = cc in omega arith)

pub or_neither : (a b : Bool) → (a || b) ≡ false → (a ≡ false) × (b ≡ false)
or_neither true b h = absurd (true≢false h)
or_neither false b h = (refl, h)

pub true_false : {b : Bool} → b ≡ true → b ≡ false → ⊥
true_false p q = true≢false (sym p ∙ q)
