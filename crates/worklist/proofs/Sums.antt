-- Sums of the numbers of the first n places. Assumes nothing.
use mathlib.Core.Path.{ap, refl, subst, sym, ◌∙◌, ◌≡◌}
use native.Mathlib.Decide.{ℕ_discrete}
use native.Mathlib.Omega.{arith}
use mathlib.Core.Logic.{◌≢◌}
use Prim.Native.Nat.{suc, zero, ℕ, ◌+◌, ◌<◌, ◌≤◌}
use Rattle.worklist.specs.Table.{sum}

pub sum_same : (f g : ℕ → ℕ) (n : ℕ) → ((x : ℕ) → x < n → f x ≡ g x) → sum f n ≡ sum g n
unfolding sum
sum_same f g zero h = refl
sum_same f g (suc n) h = let a = h n (omega arith) in let b = sum_same f g n (λ x l. h x (omega arith)) in omega arith

-- One place has one more.
pub sum_one : (f g : ℕ → ℕ) (n s : ℕ) → s < n → f s ≡ suc (g s) → ((x : ℕ) → x < n → x ≢ s → f x ≡ g x) → sum f n ≡ suc (sum g n)
unfolding sum
sum_one f g zero s l e h = absurd (omega arith)
sum_one f g (suc n) s l e h = go (ℕ_discrete n s) (λ r. sum_one f g n s r e (λ x r q. h x (omega arith) q))
  where
    go : Dec (n ≡ s) → (s < n → sum f n ≡ suc (sum g n)) → f n + sum f n ≡ suc (g n + sum g n)
    go (yes p) rec =
        let a : f n ≡ suc (g n) = ap f p ∙ e ∙ ap (λ x. suc (g x)) (sym p) in
        let b = sum_same f g n (λ x r. h x (omega arith) (λ q. omega arith)) in
        omega arith
    go (no p) rec =
        let a = h n (omega arith) p in
        let b = rec (omega arith) in
        omega arith

pub sum_most : (f : ℕ → ℕ) (n : ℕ) → ((x : ℕ) → x < n → f x ≤ 1) → sum f n ≤ n
unfolding sum
sum_most f zero h = omega arith
sum_most f (suc n) h = let a = h n (omega arith) in let b = sum_most f n (λ x l. h x (omega arith)) in omega arith

pub sum_none : (f : ℕ → ℕ) (n : ℕ) → ((x : ℕ) → x < n → f x ≡ 0) → sum f n ≡ 0
unfolding sum
sum_none f zero h = refl
sum_none f (suc n) h = let a = h n (omega arith) in let b = sum_none f n (λ x l. h x (omega arith)) in omega arith

pub sum_at_most : (f g : ℕ → ℕ) (n : ℕ) → ((x : ℕ) → x < n → f x ≤ g x) → sum f n ≤ sum g n
unfolding sum
sum_at_most f g zero h = omega arith
sum_at_most f g (suc n) h = let a = h n (omega arith) in let b = sum_at_most f g n (λ x l. h x (omega arith)) in omega arith

-- No place has more, and one has less.
pub sum_less : (f g : ℕ → ℕ) (n s : ℕ) → s < n → f s < g s → ((x : ℕ) → x < n → f x ≤ g x) → sum f n < sum g n
unfolding sum
sum_less f g zero s l e h = absurd (omega arith)
sum_less f g (suc n) s l e h = go (ℕ_discrete n s) (λ r. sum_less f g n s r e (λ x q. h x (omega arith)))
  where
    go : Dec (n ≡ s) → (s < n → sum f n < sum g n) → f n + sum f n < g n + sum g n
    go (yes p) rec =
        let a : f n < g n = subst (λ x. f x < g x) (sym p) e in
        let b = sum_at_most f g n (λ x r. h x (omega arith)) in
        omega arith
    go (no p) rec =
        let a = h n (omega arith) in
        let b = rec (omega arith) in
        omega arith
