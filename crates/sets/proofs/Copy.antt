-- A loop that copies the front of one list over another's, one store a turn: how it starts, goes on and ends. Lists of
-- numbers of any width. Assumes nothing.
use lib.ListN.{length, get_or, set, length-set}
use mathlib.Core.List.{List, [], ◌∷◌}
use mathlib.Core.Path.{◌≡◌, refl, ap, ◌∙◌}
use native.Mathlib.Nat.{le_antisymm, not-suc-le-zero, le_of_suc-le-suc}
use native.Mathlib.Numerals.{add-one}
use native.Mathlib.Omega.{arith}
use Prim.Native.Nat.{ℕ, zero, suc, ◌+◌, ◌≤◌, ◌<◌, zero-le}
use Rattle.sets.specs.Buffers.{overlaid}

-- of the first n elements, i are copied from s: d is d₀ overlaid so far
pub record Copied (n i : ℕ) (s d₀ d : List ℕ) : Type 0 where
  pub within : i ≤ n
  pub long : length d ≡ length d₀
  pub is : d ≡ overlaid i s d₀

pub copy_start : (n : ℕ) (s d : List ℕ) → Copied n 0 s d d
copy_start n s d = record { within = zero-le; long = refl; is = refl }

copy_more : (i : ℕ) (s d : List ℕ) → i < length s → i < length d → set (overlaid i s d) i (get_or s i 0) ≡ overlaid (suc i) s d
copy_more i [] d h k = absurd (not-suc-le-zero h)
copy_more i (x ∷ s) [] h k = absurd (not-suc-le-zero k)
copy_more zero (x ∷ s) (y ∷ d) h k = refl
copy_more (suc i) (x ∷ s) (y ∷ d) h k = ap (λ (t : List ℕ). x ∷ t) (copy_more i s d (le_of_suc-le-suc h) (le_of_suc-le-suc k))

pub copy_again : {n i : ℕ} {s d₀ d : List ℕ} → Copied n i s d₀ d → i < n → n ≤ length s → n ≤ length d₀
    → Copied n (i + 1) s d₀ (set d i (get_or s i 0))
copy_again {n} {i} {s} {d₀} {d} f h k l = record {
  within = omega arith;
  long = length-set d i (get_or s i 0) ∙ f.long;
  is = rw (f.is, add-one) (copy_more i s d₀ (omega arith) (omega arith));
}

pub copy_done : {n i : ℕ} {s d₀ d : List ℕ} → Copied n i s d₀ d → n ≤ i → d ≡ overlaid n s d₀
copy_done f h = rw (le_antisymm f.within h) at f.is
