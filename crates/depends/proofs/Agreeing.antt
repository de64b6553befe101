-- Two rows with as many cells agree at the columns of a mask as their keys are equal. Assumes nothing.
use borrow.Author.Tests.{eqb-true, eqb-false, eq-eqb, ne_eqb}
use lib.Dec.{eqb}
use lib.ListN.{length, length-append, replicate, take}
use lib.Seq.{length-take-le}
use mathlib.Core.Bool.{Bool, true, false, ◌&&◌, ◌||◌, and_assoc, or-true}
use mathlib.Core.List.{List, [], ◌∷◌, ◌++◌, foldl, map}
use mathlib.Core.Path.{◌≡◌, refl, sym, ap, ◌∙◌}
use native.Mathlib.Omega.{arith}
use Prim.Native.Nat.{ℕ, zero, suc, ◌+◌, ◌*◌, ◌/◌, ◌%◌, ◌≤◌, ◌<◌}
use Rattle.meaning.specs.Limits.{max_columns, max_values, unused}
use Rattle.meaning.specs.Member.{◌∈◌, here, there}
use Rattle.meaning.specs.Pack.{Row}
use Rattle.meaning.specs.Tables.{packed}
use Rattle.meaning.specs.WellFormed.{agree}
use Rattle.depends.specs.Keys.{chosen, columns_key, low, named}
use Rattle.depends.proofs.Keying.{step}

-- a row's columns, as its numbers have them
abbrev pub padded : List ℕ → List ℕ
padded cells = take max_columns (cells ++ replicate max_columns unused)

abbrev pub key_of_row : ℕ → Row → ℕ
key_of_row m x = columns_key m (map low (padded x.cells))

-- ---- equal keys

one_more : (a b k l : ℕ) → a < max_values → b < max_values → eqb (k * max_values + a) (l * max_values + b) ≡ (eqb k l && eqb a b)
one_more a b k l h g = go (eqb k l) (eqb a b) refl refl
  where
    go : (p q : Bool) → eqb k l ≡ p → eqb a b ≡ q → eqb (k * max_values + a) (l * max_values + b) ≡ (eqb k l && eqb a b)
    go true true e f = rw (e, f) (eq-eqb (k * max_values + a) (l * max_values + b) (omega (arith, eqb-true k l e, eqb-true a b f)))
    go true false e f = rw (e, f) (ne_eqb (k * max_values + a) (l * max_values + b) (λ z. eqb-false a b f (omega (arith, z, eqb-true k l e))))
    go false q e f = rw e (ne_eqb (k * max_values + a) (l * max_values + b) (λ z. eqb-false k l e (omega (arith, z))))

folded : (m k l : ℕ) (xs ys : List ℕ) → length xs ≡ length ys
    → eqb (foldl step k (chosen m (map low xs))) (foldl step l (chosen m (map low ys))) ≡ (eqb k l && agree m (map low xs) (map low ys))
unfolding agree chosen
folded m k l [] [] h = and_true (eqb k l)
  where
    and_true : (b : Bool) → b ≡ (b && true)
    and_true true = refl
    and_true false = refl
folded m k l [] (y ∷ ys) h = absurd (let z : ⊥ = omega (arith, h) in z)
folded m k l (x ∷ xs) [] h = absurd (let z : ⊥ = omega (arith, h) in z)
folded m k l (x ∷ xs) (y ∷ ys) h = go (λ i j. folded (m / 2) i j xs ys (omega (arith, h))) (eqb (m % 2) 0)
  where
    go : ((i j : ℕ) → eqb (foldl step i (chosen (m / 2) (map low xs))) (foldl step j (chosen (m / 2) (map low ys))) ≡ (eqb i j && agree (m / 2) (map low xs) (map low ys)))
        → (b : Bool) → eqb (foldl step k (named b (low x) (chosen (m / 2) (map low xs)))) (foldl step l (named b (low y) (chosen (m / 2) (map low ys))))
        ≡ (eqb k l && ((b || eqb (low x) (low y)) && agree (m / 2) (map low xs) (map low ys)))
    go ih true = ih k l
    go ih false =
        ih (step k (low x)) (step l (low y)) ∙ ap (λ b. b && agree (m / 2) (map low xs) (map low ys)) (one_more (low x) (low y) k l (omega arith) (omega arith))
        ∙ and_assoc (eqb k l) (eqb (low x) (low y)) (agree (m / 2) (map low xs) (map low ys))

-- ---- columns that are unused are alike

agree_same : (m : ℕ) (xs : List ℕ) → agree m xs xs ≡ true
unfolding agree
agree_same m [] = refl
agree_same m (x ∷ xs) = rw (eq-eqb x x refl, or-true (eqb (m % 2) 0)) (agree_same (m / 2) xs)

low_value : (x : ℕ) → x < max_values → low x ≡ x
low_value x h = omega (arith, h)

-- each cell is a value's number
abbrev pub Values : List ℕ → Type 0
Values cells = (v : ℕ) → v ∈ cells → v < max_values

agree_front : (n m : ℕ) (xs ys zs : List ℕ) → length xs ≡ length ys → length xs ≤ n → Values xs → Values ys
    → agree m (map low (take n (xs ++ zs))) (map low (take n (ys ++ zs))) ≡ agree m xs ys
unfolding agree
agree_front n m [] [] zs e h p q = agree_same m (map low (take n zs))
agree_front n m [] (y ∷ ys) zs e h p q = absurd (let z : ⊥ = omega (arith, e) in z)
agree_front n m (x ∷ xs) [] zs e h p q = absurd (let z : ⊥ = omega (arith, e) in z)
agree_front zero m (x ∷ xs) (y ∷ ys) zs e h p q = absurd (let z : ⊥ = omega (arith, h) in z)
agree_front (suc n) m (x ∷ xs) (y ∷ ys) zs e h p q =
    rw (low_value x (p x (here refl)), low_value y (q y (here refl)))
    (ap (λ z. (eqb (m % 2) 0 || eqb x y) && z) (agree_front n (m / 2) xs ys zs (omega (arith, e)) (omega (arith, h)) (λ v i. p v (there i)) (λ v i. q v (there i))))

pub padded_long : (cells : List ℕ) → length (padded cells) ≡ max_columns
padded_long cells = length-take-le max_columns (cells ++ replicate max_columns unused) (omega (arith, length-append cells (replicate max_columns unused)))

pub keys_agree : (m : ℕ) (x y : Row) → length x.cells ≡ length y.cells → length x.cells ≤ max_columns
    → Values x.cells → Values y.cells
    → eqb (key_of_row m x) (key_of_row m y) ≡ agree m x.cells y.cells
unfolding columns_key packed
keys_agree m x y e h p q =
    folded m 0 0 (padded x.cells) (padded y.cells) (padded_long x.cells ∙ sym (padded_long y.cells))
    ∙ agree_front max_columns m x.cells y.cells (replicate max_columns unused) e h p q
