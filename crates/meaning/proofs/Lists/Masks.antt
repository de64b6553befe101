-- What is a member of what: unions, intersections, a type added, the bound on a mask's members. Assumes nothing.
use lib.Arith.{lt-one}
use lib.Bits.{bit_and, bit_or}
use lib.Pow.{pow-lt, suc_ones}
use mathlib.Core.Logic.{◌↔◌, ◌⊎◌, inl, inr}
use mathlib.Core.Path.{◌≡◌}
use native.Mathlib.Decide.{ℕ_discrete}
use native.Mathlib.Nat.{le_of_suc-le-suc, mod-eq_of_lt, not-suc-le-zero, one-mul, pow-suc}
use native.Mathlib.Omega.{arith}
use Prim.Native.Nat.{ℕ, zero, suc, ◌-◌, ◌*◌, ◌/◌, ◌%◌, ◌^◌, ◌<◌, zero-le, suc-le-suc}
use Rattle.meaning.proofs.Lists.Bits.{bit_and_lem, bit_lt, bit_one, bit_or_lem, bit_other, zero_bits}
use Rattle.meaning.specs.TypeSet.{bit}

pub half_lt : (n d : ℕ) → n < 2 ^ suc d → n / 2 < 2 ^ d
half_lt n d h = let e = pow-suc 2 d in omega arith

-- the members of a mask below 2 ^ k are below k
pub bit_small : (k t n : ℕ) → bit t n ≡ 1 → n < 2 ^ k → t < k
unfolding bit
bit_small zero t n e h = absurd (let z : n ≡ 0 = lt-one h in omega (arith, rw z at e, zero_bits t))
bit_small (suc k) zero n e h = suc-le-suc zero-le
bit_small (suc k) (suc t) n e h = suc-le-suc (bit_small k t (n / 2) e (half_lt n k h))

-- type t's weight as code makes it at the width d, `1 << t`
pub weight_made : (d t : ℕ) → t < d → 1 * 2 ^ t % 2 ^ d ≡ 2 ^ t
weight_made d t h = rw one-mul (mod-eq_of_lt (pow-lt h))

-- a member of a union is a member of one of the two
pub union_member : (t a b : ℕ) → (bit t (bit_or a b) ≡ 1) ↔ ((bit t a ≡ 1) ⊎ (bit t b ≡ 1))
union_member t a b = (λ h. forth h (ℕ_discrete (bit t a) 1), back)
  where
    forth : bit t (bit_or a b) ≡ 1 → Dec (bit t a ≡ 1) → (bit t a ≡ 1) ⊎ (bit t b ≡ 1)
    forth h (yes e) = inl e
    forth h (no n) = inr (omega (arith, bit_or_lem t a b, bit_lt t a))

    back : (bit t a ≡ 1) ⊎ (bit t b ≡ 1) → bit t (bit_or a b) ≡ 1
    back (inl e) = omega (arith, bit_or_lem t a b, bit_lt t b)
    back (inr e) = omega (arith, bit_or_lem t a b, bit_lt t a)

-- and one of an intersection of both
pub intersection_member : (t a b : ℕ) → (bit t (bit_and a b) ≡ 1) ↔ ((bit t a ≡ 1) × (bit t b ≡ 1))
intersection_member t a b = (
  λ h. (omega (arith, bit_and_lem t a b, bit_lt t a), omega (arith, bit_and_lem t a b, bit_lt t b)),
  λ h. omega (arith, bit_and_lem t a b, h.0, h.1),
)

-- type u added to a mask
pub added_member : (t u n : ℕ) → (bit t (bit_or n (2 ^ u)) ≡ 1) ↔ ((t ≡ u) ⊎ (bit t n ≡ 1))
added_member t u n = (λ h. forth (ℕ_discrete t u) h, back)
  where
    forth : Dec (t ≡ u) → bit t (bit_or n (2 ^ u)) ≡ 1 → (t ≡ u) ⊎ (bit t n ≡ 1)
    forth (yes e) h = inl e
    forth (no k) h = inr (omega (arith, h, bit_or_lem t n (2 ^ u), bit_other t u k))

    back : (t ≡ u) ⊎ (bit t n ≡ 1) → bit t (bit_or n (2 ^ u)) ≡ 1
    back (inl e) = rw e ((union_member u n (2 ^ u)).1 (inr (bit_one u)))
    back (inr h) = (union_member t n (2 ^ u)).1 (inl h)

-- 2 ^ k - 1 is the mask of all types below k
ones_bit : (k t : ℕ) → t < k → bit t (2 ^ k - 1) ≡ 1
unfolding bit
ones_bit zero t h = absurd (not-suc-le-zero h)
ones_bit (suc k) zero h = omega (arith, pow-suc 2 k, suc_ones k)
ones_bit (suc k) (suc t) h =
    let e : (2 ^ suc k - 1) / 2 ≡ 2 ^ k - 1 = omega (arith, pow-suc 2 k, suc_ones k) in rw e (ones_bit k t (le_of_suc-le-suc h))

-- the members below k
pub low_member : (k t m : ℕ) → (bit t (bit_and m (2 ^ k - 1)) ≡ 1) ↔ ((t < k) × (bit t m ≡ 1))
low_member k t m = (
  λ h. let b = (intersection_member t m (2 ^ k - 1)).0 h in (bit_small k t (2 ^ k - 1) b.1 (omega (arith, suc_ones k)), b.0),
  λ h. (intersection_member t m (2 ^ k - 1)).1 (h.1, ones_bit k t h.0),
)
