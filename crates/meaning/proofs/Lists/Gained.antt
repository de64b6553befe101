-- What a mask gains by a union: `old ^ (old | bits)` has the members of bits that old lacks. Assumes nothing.
use lib.Arith.{bin_ind, digits_div, digits_mod}
use lib.Bits.{bit_or, bit_xor, differ, or_step, xor_step}
use mathlib.Core.Logic.{◌↔◌}
use mathlib.Core.Path.{ap, refl, sym, ◌∙◌, ◌≡◌}
use native.Mathlib.Omega.{arith}
use Prim.Native.Nat.{max, suc, zero, ℕ, ◌%◌, ◌/◌, ◌<◌, ◌≤◌}
use Rattle.meaning.proofs.Lists.Bits.{bit_lt, bits_equal, bit_or_lem, zero_bits}
use Rattle.meaning.specs.TypeSet.{bit}

differ_lt : (a b : ℕ) → a < 2 → b < 2 → differ a b < 2
differ_lt zero b p q = q
differ_lt (suc zero) zero p q = p
differ_lt (suc zero) (suc b) p q = omega arith
differ_lt (suc (suc a)) b p q = absurd (omega arith)

bit_xor_lem : (t x y : ℕ) → bit t (bit_xor x y) ≡ differ (bit t x) (bit t y)
unfolding bit
bit_xor_lem zero x y = ap (λ (z : ℕ). z % 2) (xor_step x y) ∙ digits_mod (bit_xor (x / 2) (y / 2)) (differ_lt (x % 2) (y % 2) (omega arith) (omega arith))
bit_xor_lem (suc t) x y =
    ap (λ (z : ℕ). bit t (z / 2)) (xor_step x y) ∙ ap (bit t) (digits_div (bit_xor (x / 2) (y / 2)) {m = 2} {r = differ (x % 2) (y % 2)} (differ_lt (x % 2) (y % 2) (omega arith) (omega arith)))
    ∙ bit_xor_lem t (x / 2) (y / 2)

-- Numbers that do not differ in a bit are equal.
pub xor_equal : (x y : ℕ) → bit_xor x y ≡ 0 → x ≡ y
xor_equal x y e = bits_equal x y (λ t. same (bit t x) (bit t y) (bit_lt t x) (bit_lt t y) (sym (bit_xor_lem t x y) ∙ ap (bit t) e ∙ zero_bits t))
  where
    same : (a b : ℕ) → a < 2 → b < 2 → differ a b ≡ 0 → a ≡ b
    same zero b p q h = sym h
    same (suc zero) zero p q h = h
    same (suc zero) (suc zero) p q h = refl
    same (suc zero) (suc (suc b)) p q h = absurd (omega arith)
    same (suc (suc a)) b p q h = absurd (omega arith)

-- A union is no less.
pub or_le : (a b : ℕ) → a ≤ bit_or a b
or_le = bin_ind (λ a. (b : ℕ) → a ≤ bit_or a b) (λ b. omega arith) (λ a ih b. let h = ih (b / 2) in let e = or_step a b in omega arith)

-- What `old | bits` has beyond old.
abbrev pub gained : ℕ → ℕ → ℕ
gained old bits = bit_xor old (bit_or old bits)

digit_cases : (a b m : ℕ) → a < 2 → b < 2 → m ≡ max a b → (differ a m ≡ 1) ↔ ((b ≡ 1) × (a ≡ 0))
digit_cases zero b m p q e = (λ h. (omega arith, refl), λ h. let k = h.0 in omega arith)
digit_cases (suc zero) b zero p q e = absurd (omega arith)
digit_cases (suc zero) b (suc m) p q e = (λ h. absurd (omega arith), λ h. absurd (let k = h.1 in omega arith))
digit_cases (suc (suc a)) b m p q e = absurd (omega arith)

pub gained_bit : (t old bits : ℕ) → (bit t (gained old bits) ≡ 1) ↔ ((bit t bits ≡ 1) × (bit t old ≡ 0))
gained_bit t old bits =
    let e : bit t (gained old bits) ≡ differ (bit t old) (bit t (bit_or old bits)) = bit_xor_lem t old (bit_or old bits) in
    let c = digit_cases (bit t old) (bit t bits) (bit t (bit_or old bits)) (bit_lt t old) (bit_lt t bits) (bit_or_lem t old bits) in
    (λ h. c.0 (sym e ∙ h), λ h. e ∙ c.1 h)
