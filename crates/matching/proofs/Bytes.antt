-- Lists of value numbers as one number. Assumes nothing.
use lib.ListN.{length, get_or, drop}
use lib.Seq.{drop-cons}
use mathlib.Core.List.{List, [], ◌∷◌, map}
use mathlib.Core.Path.{◌≡◌, refl, sym, subst}
use native.Mathlib.Nat.{pow-suc, add-zero, add-suc}
use native.Mathlib.Omega.{arith}
use Prim.Native.Nat.{ℕ, zero, suc, ◌+◌, ◌*◌, ◌-◌, ◌^◌, ◌≤◌, ◌<◌}
use Rattle.meaning.specs.Core.{Assignment}
use Rattle.meaning.specs.Member.{◌∈◌, here, there}
use Rattle.matching.specs.Plan.{stacked}
use Rattle.meaning.specs.Limits.{key_room, key_width, max_values}

pow_more : (i d : ℕ) → max_values ^ i ≤ max_values ^ (i + d)
pow_more i zero = rw add-zero (omega arith)
pow_more i (suc d) = let e = pow-suc max_values (i + d) in let h = pow_more i d in rw add-suc (omega arith)

pub pow_le : (i j : ℕ) → i ≤ j → max_values ^ i ≤ max_values ^ j
pow_le i j h = let e : i + (j - i) ≡ j = omega arith in rw e at (pow_more i (j - i))

pub pow_next : (i : ℕ) → max_values ^ (i + 1) ≡ max_values ^ i * max_values
pow_next i = let e = pow-suc max_values i in let f : i + 1 ≡ suc i = omega arith in rw f (omega arith)

-- a key that is not full has room for one value more
pub below_room : (i k : ℕ) → k < max_values ^ i → i < key_width → k < key_room
below_room i k h l = let m : max_values ^ i ≤ max_values ^ (key_width - 1) = pow_le i (key_width - 1) (omega arith) in omega (arith, h, m)

pub stacked_small : (xs : List ℕ) → ((x : ℕ) → x ∈ xs → x < max_values) → stacked xs < max_values ^ length xs
unfolding stacked
stacked_small [] h = omega arith
stacked_small (x ∷ xs) h =
    let a = stacked_small xs (λ y m. h y (there m)) in
    let b = h x (here refl) in
    let e = pow-suc max_values (length xs) in
    omega arith

-- the first of the columns from c on
pub stacked_drop : (σ : Assignment) (vs : List ℕ) (c : ℕ) → c < length vs
    → stacked (map σ (drop c vs)) ≡ stacked (map σ (drop (suc c) vs)) * max_values + σ (get_or vs c 0)
unfolding stacked
stacked_drop σ vs c h = rw (drop-cons vs c 0 h)

-- what equal numbers say of each variable
pub stacked_same : (ρ σ : Assignment) (vs : List ℕ) → ((v : ℕ) → v ∈ vs → ρ v < max_values) → ((v : ℕ) → v ∈ vs → σ v < max_values)
    → stacked (map ρ vs) ≡ stacked (map σ vs) → (v : ℕ) → v ∈ vs → ρ v ≡ σ v
unfolding stacked
stacked_same ρ σ [] s t e v x4 = elim x4 [ ]
stacked_same ρ σ (w ∷ vs) s t e v (here q) = let a = s w (here refl) in let b = t w (here refl) in subst (λ x. ρ x ≡ σ x) (sym q) (omega (arith, e, a, b))
stacked_same ρ σ (w ∷ vs) s t e v (there m) =
    let a = s w (here refl) in
    let b = t w (here refl) in
    stacked_same ρ σ vs (λ x n. s x (there n)) (λ x n. t x (there n)) (omega (arith, e, a, b)) v m
