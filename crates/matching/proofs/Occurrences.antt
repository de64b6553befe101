-- Laws of how often a variable occurs. Assumes nothing.
use borrow.Author.Tests.{eq-eqb}
use lib.Dec.{eqb}
use mathlib.Core.List.Memᴰ
use mathlib.Core.List.{List, [], ◌∷◌, ◌++◌}
use mathlib.Core.Path.{◌≡◌, sym, subst}
use native.Mathlib.Decide.{ℕ_discrete}
use native.Mathlib.Omega.{arith}
use Prim.Native.Nat.{ℕ, zero, suc, ◌+◌, ◌≤◌, ◌<◌, zero-le, suc-le-suc}
use Rattle.meaning.specs.Member.{◌∈◌, here, there}
use Rattle.meaning.proofs.Cases.{case_on}
use Rattle.matching.specs.Plan.{variables_at, variables_from}
use Rattle.matching.proofs.Marked.{times}

-- ---- how often a number occurs

pub times_append : (v : ℕ) (xs ys : List ℕ) → times v (xs ++ ys) ≡ times v xs + times v ys
unfolding times
times_append v [] ys = omega arith
times_append v (x ∷ xs) ys =
    let h = times_append v xs ys in
    case_on (eqb x v) (λ e. rw e (omega (arith, h))) (λ e. rw e h)

pub times_in : (v : ℕ) {xs : List ℕ} → v ∈ xs → 1 ≤ times v xs
unfolding times
times_in v (here {x = x} e) = rw (eq-eqb x v (sym e)) (suc-le-suc zero-le)
times_in v (there {x = x} {xs = xs} m) = let h = times_in v m in case_on (eqb x v) (λ e. rw e (omega (arith, h))) (λ e. rw e h)

-- ---- the variables of several atoms

pub from_in : (numbers : List ℕ) (i n j v : ℕ) → i ≤ j → j < i + n → v ∈ variables_at numbers j → v ∈ variables_from numbers i n
unfolding variables_from
from_in numbers i zero j v h k m = absurd (omega (arith, h, k))
from_in numbers i (suc n) j v h k m = go (ℕ_discrete j i) (λ d. from_in numbers (suc i) n j v (omega (arith, h, d)) (omega (arith, k)) m)
  where
    go : Dec (j ≡ i) → ((j ≡ i → ⊥) → v ∈ variables_from numbers (suc i) n) → v ∈ (variables_at numbers i ++ variables_from numbers (suc i) n)
    go (yes e) rest = Memᴰ.append_left _ (subst (λ x. v ∈ variables_at numbers x) e m)
    go (no d) rest = Memᴰ.append_right (variables_at numbers i) (rest d)

-- a variable of two atoms occurs twice
pub from_twice : (numbers : List ℕ) (o n i j v : ℕ) → o ≤ i → i < j → j < o + n → v ∈ variables_at numbers i → v ∈ variables_at numbers j
    → 2 ≤ times v (variables_from numbers o n)
unfolding variables_from
from_twice numbers o zero i j v a b c x y = absurd (omega (arith, a, b, c))
from_twice numbers o (suc n) i j v a b c x y = go (ℕ_discrete i o) (λ d. from_twice numbers (suc o) n i j v (omega (arith, a, d)) b (omega (arith, c)) x y)
  where
    sum : times v (variables_at numbers o ++ variables_from numbers (suc o) n) ≡ times v (variables_at numbers o) + times v (variables_from numbers (suc o) n)
    sum = times_append v (variables_at numbers o) (variables_from numbers (suc o) n)

    go : Dec (i ≡ o) → ((i ≡ o → ⊥) → 2 ≤ times v (variables_from numbers (suc o) n)) → 2 ≤ times v (variables_at numbers o ++ variables_from numbers (suc o) n)
    go (yes e) rest =
        let p = times_in v (subst (λ k. v ∈ variables_at numbers k) e x) in
        let q = times_in v (from_in numbers (suc o) n j v (omega (arith, a, b)) (omega (arith, c)) y) in
        omega (arith, p, q, sum)
    go (no d) rest = omega (arith, rest d, sum)
