-- What holds of all numbers below n: of one more, number by number. Assumes nothing.
use mathlib.Core.Path.{sym, subst}
use native.Mathlib.Omega.{arith}
use Prim.Native.Nat.{ℕ, zero, suc, ◌+◌, ◌<◌}
use Rattle.meaning.proofs.Cases.{case_last}

pub below_next : {Q : ℕ → Type 0} {n : ℕ} → ((i : ℕ) → i < n → Q i) → Q n → (i : ℕ) → i < n + 1 → Q i
below_next {Q} f q i h = case_last i h (f i) (λ e. subst Q (sym e) q)

-- ---- a search that has found nothing

pub record NoneBelow (Q : ℕ → Type 0) (i : ℕ) : Type 0 where
  pub none : (j : ℕ) → j < i → ¬ Q j

pub none_start : {Q : ℕ → Type 0} → NoneBelow Q 0
none_start = record { none = λ j h. absurd (omega arith) }

pub none_again : {Q : ℕ → Type 0} {i : ℕ} → NoneBelow Q i → ¬ Q i → NoneBelow Q (i + 1)
none_again {Q} n k = record { none = below_next {Q = λ j. ¬ Q j} n.none k }

-- ---- number by number

-- something of each number below n
abbrev pub Each : ℕ → (ℕ → Type 0) → Type 0
Each zero P = Unit
Each (suc n) P = P 0 × Each n (λ i. P (suc i))

pub each_at : (n : ℕ) (P : ℕ → Type 0) → Each n P → (i : ℕ) → i < n → P i
each_at zero P t i h = absurd (let z : ⊥ = omega arith in z)
each_at (suc n) P t zero h = t.0
each_at (suc n) P t (suc i) h = each_at n (λ j. P (suc j)) t.1 i (omega arith)
