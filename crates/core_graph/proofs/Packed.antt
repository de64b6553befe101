-- Bytes packed into one number: two lists after each other, the bound, the list read back, zeros put behind. Assumes
-- nothing.
use lib.Arith.{digits_div, digits_mod}
use Rattle.std.specs.Prelude.{◌≡◌, ℕ, suc, ◌+◌, ◌-◌, ◌*◌, ◌/◌, ◌%◌, ◌^◌, ◌<◌, ◌≤◌, List, [], ◌∷◌, ◌++◌, length, take, replicate}
use mathlib.Core.List.{foldl, foldl-append}
use mathlib.Core.Path.{refl, ap, ◌∙◌}
use native.Mathlib.Nat.{add-mul, mul_assoc, mul-le-mul_right, pow-succ'}
use native.Mathlib.Omega.{arith}
use Rattle.meaning.specs.Limits.{max_arguments, max_values}
use Rattle.meaning.specs.Member.{◌∈◌, here, there}
use Rattle.meaning.specs.Tables.{packed}

-- every value is a byte
abbrev pub Bytes : List ℕ → Type 0
Bytes vs = (v : ℕ) → v ∈ vs → v < max_values

from : (k : ℕ) (ys : List ℕ) → foldl (λ k v. k * max_values + v) k ys ≡ k * max_values ^ length ys + foldl (λ k v. k * max_values + v) 0 ys
from k [] = omega arith
from k (y ∷ ys) =
    let w = max_values ^ length ys in
    let rest = foldl (λ k v. k * max_values + v) 0 ys in
    let a : (k * max_values + y) * w ≡ k * (max_values * w) + y * w = add-mul (k * max_values) y w ∙ ap (λ x. x + y * w) (mul_assoc k max_values w) in
    let z : (0 * max_values + y) * w ≡ y * w = ap (λ x. x * w) (omega arith) in
    let p : foldl (λ k v. k * max_values + v) k (y ∷ ys) ≡ (k * max_values + y) * w + rest = from (k * max_values + y) ys in
    let q : foldl (λ k v. k * max_values + v) 0 (y ∷ ys) ≡ (0 * max_values + y) * w + rest = from (0 * max_values + y) ys in
    rw (pow-succ') (omega (arith, a, z, p, q))

pub packed_append : (xs ys : List ℕ) → packed (xs ++ ys) ≡ packed xs * max_values ^ length ys + packed ys
unfolding packed
packed_append xs ys = foldl-append (λ k v. k * max_values + v) 0 xs ys ∙ from (foldl (λ k v. k * max_values + v) 0 xs) ys

bound : (k : ℕ) (ys : List ℕ) → Bytes ys → foldl (λ k v. k * max_values + v) k ys < suc k * max_values ^ length ys
bound k [] h = omega arith
bound k (y ∷ ys) h =
    let w = max_values ^ length ys in
    let l : y < max_values = h y (here refl) in
    let r = bound (k * max_values + y) ys (λ v m. h v (there m)) in
    let a : suc k * max_values * w ≡ suc k * (max_values * w) = mul_assoc (suc k) max_values w in
    let b : suc (k * max_values + y) * w ≤ suc k * max_values * w = mul_le (suc (k * max_values + y)) (suc k * max_values) w (omega arith) in
    rw (pow-succ') (omega (arith, a, b, r))
  where
    mul_le : (m n w : ℕ) → m ≤ n → m * w ≤ n * w
    mul_le m n w h = mul-le-mul_right w h

pub packed_lt : (ys : List ℕ) → Bytes ys → packed ys < max_values ^ length ys
unfolding packed
packed_lt ys h = omega (arith, bound 0 ys h)

-- the two lists' numbers, taken apart
module _ (xs ys : List ℕ) (h : Bytes ys) where
  pub packed_front : packed (xs ++ ys) / max_values ^ length ys ≡ packed xs
  packed_front = rw packed_append (digits_div (packed xs) (packed_lt ys h))

  pub packed_back : packed (xs ++ ys) % max_values ^ length ys ≡ packed ys
  packed_back = rw packed_append (digits_mod (packed xs) (packed_lt ys h))

-- zeros behind
pub packed_padded : (vs : List ℕ) → length vs ≤ max_arguments → packed (take max_arguments (vs ++ replicate max_arguments 0)) ≡ packed vs * max_values ^ (max_arguments - length vs)
unfolding packed
packed_padded [] h = refl
packed_padded (a ∷ []) h = omega arith
packed_padded (a ∷ b ∷ []) h = omega arith
packed_padded (a ∷ b ∷ c ∷ []) h = omega arith
packed_padded (a ∷ b ∷ c ∷ d ∷ []) h = omega arith
packed_padded (a ∷ b ∷ c ∷ d ∷ e ∷ vs) h = absurd (omega arith)

-- lists of one length that pack to one number are equal
pub packed_one : (k l : ℕ) (xs ys : List ℕ) → Bytes xs → Bytes ys → length xs ≡ length ys
    → foldl (λ k v. k * max_values + v) k xs ≡ foldl (λ k v. k * max_values + v) l ys → (k ≡ l) × (xs ≡ ys)
packed_one k l [] [] a b e q = (q, refl)
packed_one k l [] (y ∷ ys) a b e q = absurd (omega arith)
packed_one k l (x ∷ xs) [] a b e q = absurd (omega arith)
packed_one k l (x ∷ xs) (y ∷ ys) a b e q =
    let r = packed_one (k * max_values + x) (l * max_values + y) xs ys (λ v m. a v (there m)) (λ v m. b v (there m)) (omega arith) q in
    let hx : x < max_values = a x (here refl) in
    let hy : y < max_values = b y (here refl) in
    let s : x ≡ y = omega (arith, r.0) in
    (omega (arith, r.0), λ i. s i ∷ r.1 i)

pub packed_injective : (xs ys : List ℕ) → Bytes xs → Bytes ys → length xs ≡ length ys → packed xs ≡ packed ys → xs ≡ ys
unfolding packed
packed_injective xs ys a b e q = (packed_one 0 0 xs ys a b e q).1

-- one byte
pub single : (v : ℕ) → v < max_values → Bytes (v ∷ [])
single v h u (here e) = omega arith
single v h u (there m) = elim m [ ]

pub one_packed : (v : ℕ) → packed (v ∷ []) ≡ v
unfolding packed
one_packed v = omega arith
