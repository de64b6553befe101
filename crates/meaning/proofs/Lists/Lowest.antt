-- The lowest member of a mask, and the mask without it: trailing_zeros gives the one, `mask & (mask - 1)` the other,
-- and count_ones falls by one. Assumes nothing.
use lib.Arith.{bin_ind}
use lib.Bits.{bit_and, and_step, and_self, and_le_l}
use lib.Count.{ones, ones_step, count_trailing_zeros}
use mathlib.Core.Logic.{◌≢◌}
use mathlib.Core.Path.{◌≡◌, refl, sym, ap, ◌∙◌}
use native.Mathlib.Nat.{zero-add, add-zero, not-suc-le-zero, le_of_suc-le-suc}
use native.Mathlib.Omega.{arith}
use Prim.Native.Nat.{ℕ, zero, suc, ◌*◌, ◌-◌, ◌/◌, ◌%◌, ◌^◌, ◌≤◌, ◌<◌, min}
use Rattle.meaning.specs.TypeSet.{bit}
use Rattle.meaning.proofs.Cases.{even_or_odd}
use Rattle.meaning.proofs.Lists.Masks.{half_lt, intersection_member}

-- the mask without its lowest member
abbrev pub cleared : ℕ → ℕ
cleared n = bit_and n (n - 1)

pub cleared_le : (n : ℕ) → cleared n ≤ n
cleared_le n = and_le_l n (n - 1)

pub cleared_member : (t n : ℕ) → bit t (cleared n) ≡ 1 → bit t n ≡ 1
cleared_member t n h = ((intersection_member t n (n - 1)).0 h).0

clear_odd : (n : ℕ) → n % 2 ≡ 1 → cleared n ≡ n / 2 * 2
clear_odd n e =
    let h : (n - 1) / 2 ≡ n / 2 = omega arith in
    let r : min (n % 2) ((n - 1) % 2) ≡ 0 = omega arith in
    and_step n (n - 1) ∙ rw (h, r, and_self) (add-zero _)

clear_even : (n : ℕ) → 0 < n → n % 2 ≡ 0 → cleared n ≡ cleared (n / 2) * 2
clear_even n p e =
    let h : (n - 1) / 2 ≡ n / 2 - 1 = omega arith in
    let r : min (n % 2) ((n - 1) % 2) ≡ 0 = omega arith in
    and_step n (n - 1) ∙ rw (h, r) (add-zero _)

-- a digit 0 put below m
double_half : (m : ℕ) → m * 2 / 2 ≡ m
double_half m = omega arith

double_even : (m : ℕ) → m * 2 % 2 ≡ 0
double_even m = omega arith

ones_double : (m : ℕ) → ones (m * 2) ≡ ones m
ones_double m = ones_step (m * 2) ∙ rw (double_even, double_half) (zero-add _)

-- one member fewer
pub ones_cleared : (n : ℕ) → 0 < n → ones n ≡ suc (ones (cleared n))
ones_cleared = bin_ind (λ n. 0 < n → ones n ≡ suc (ones (cleared n))) (λ p. omega arith) (λ n ih p.
    even_or_odd n (λ e. let h = ih (omega arith) in rw (clear_even n p e, ones_double) (omega (arith, ones_step n)))
    (λ e. rw (clear_odd n e, ones_double) (omega (arith, ones_step n))))

-- t is the lowest member of n, and clearing it leaves the others
pub record Lowest (n t : ℕ) : Type 0 where
  pub member : bit t n ≡ 1
  pub least : (u : ℕ) → u < t → bit u n ≡ 0
  pub gone : bit t (cleared n) ≡ 0
  pub others : (u : ℕ) → u ≢ t → bit u (cleared n) ≡ bit u n

lowest_odd : (n : ℕ) → n % 2 ≡ 1 → Lowest n 0
unfolding bit
lowest_odd n e = record {
  member = e;
  least = λ u h. absurd (not-suc-le-zero h);
  gone = rw (clear_odd n e) (double_even (n / 2));
  others = others;
}
  where
    others : (u : ℕ) → u ≢ 0 → bit u (cleared n) ≡ bit u n
    others zero h = absurd (h refl)
    others (suc u) h = rw (clear_odd n e, double_half)

lowest_even : (n t : ℕ) → 0 < n → n % 2 ≡ 0 → Lowest (n / 2) t → Lowest n (suc t)
unfolding bit
lowest_even n t p e l = record {
  member = l.member;
  least = least;
  gone = rw (clear_even n p e, double_half) l.gone;
  others = others;
}
  where
    least : (u : ℕ) → u < suc t → bit u n ≡ 0
    least zero h = e
    least (suc u) h = l.least u (le_of_suc-le-suc h)

    others : (u : ℕ) → u ≢ suc t → bit u (cleared n) ≡ bit u n
    others zero h = rw (clear_even n p e) (double_even (cleared (n / 2)) ∙ sym e)
    others (suc u) h = rw (clear_even n p e, double_half) (l.others u (λ q. h (ap suc q)))

-- trailing_zeros gives the lowest member, at any width d that holds the mask
pub lowest : (d n : ℕ) → 0 < n → n < 2 ^ d → Lowest n (count_trailing_zeros d n)
unfolding count_trailing_zeros
lowest zero n p h = absurd (let k : n < 1 = h in omega arith)
lowest (suc d) n p h =
    even_or_odd n (λ e. rw e (lowest_even n _ p e (lowest d (n / 2) (omega arith) (half_lt n d h))))
    (λ e. rw e (lowest_odd n e))
