-- Powers of 256, bytes put together and taken apart. Assumes nothing.
use lib.Pow.{pow-add}
use Rattle.std.specs.Prelude.{◌≡◌, ℕ, zero, suc, ◌+◌, ◌-◌, ◌*◌, ◌/◌, ◌%◌, ◌^◌, ◌<◌, ◌≤◌}
use mathlib.Core.Path.{refl}
use native.Mathlib.Omega.{arith}
use Rattle.meaning.specs.Limits.{max_arguments, max_values, term_room}

-- a number up to four is one of five
pub up_to_four : (P : ℕ → Type 0) → P 0 → P 1 → P 2 → P 3 → P 4 → (n : ℕ) → n ≤ max_arguments → P n
up_to_four P a b c d e zero h = a
up_to_four P a b c d e (suc zero) h = b
up_to_four P a b c d e (suc (suc zero)) h = c
up_to_four P a b c d e (suc (suc (suc zero))) h = d
up_to_four P a b c d e (suc (suc (suc (suc zero)))) h = e
up_to_four P a b c d e (suc (suc (suc (suc (suc n))))) h = absurd (omega arith)

pub bytes_made : (n : ℕ) → n ≤ max_arguments → 1 * 2 ^ (8 * n) % 2 ^ 64 ≡ max_values ^ n
bytes_made = up_to_four (λ n. 1 * 2 ^ (8 * n) % 2 ^ 64 ≡ max_values ^ n) refl refl refl refl refl

pub bytes_some : (n : ℕ) → n ≤ max_arguments → 0 < max_values ^ n
bytes_some = up_to_four (λ n. 0 < max_values ^ n) (omega arith) (omega arith) (omega arith) (omega arith) (omega arith)

-- a bytes, moved to the front of four
pub padded_lt : (a : ℕ) → a ≤ max_arguments → (v : ℕ) → v < max_values ^ a → v * max_values ^ (max_arguments - a) < term_room
padded_lt =
    up_to_four (λ a. (v : ℕ) → v < max_values ^ a → v * max_values ^ (max_arguments - a) < term_room) (λ v h. omega arith) (λ v h. omega arith) (λ v h. omega arith)
    (λ v h. omega arith) (λ v h. omega arith)

-- the bytes before the last b
pub before_lt : (a k b : ℕ) → b ≤ max_arguments → k < max_values ^ (a + b) → k / max_values ^ b < max_values ^ a
before_lt a k b l h =
    up_to_four (λ b. k < max_values ^ a * max_values ^ b → k / max_values ^ b < max_values ^ a) (λ h. omega arith) (λ h. omega arith) (λ h. omega arith)
    (λ h. omega arith) (λ h. omega arith) b l (rw pow-add at h)

pub last_lt : (k b : ℕ) → b ≤ max_arguments → k % max_values ^ b < max_values ^ b
last_lt k =
    up_to_four (λ b. k % max_values ^ b < max_values ^ b) (omega arith) (omega arith) (omega arith) (omega arith) (omega arith)
