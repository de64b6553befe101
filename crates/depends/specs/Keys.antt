-- Rows by keys: the columns that a mask names, as one number. Assumes nothing.
use Rattle.std.specs.Prelude.{eqb, drop, take, Bool, true, false, not, ◌&&◌, ◌||◌, List, [], ◌∷◌, map, ℕ, ◌/◌, ◌%◌}
use Rattle.meaning.specs.Limits.{max_columns, max_values}
use Rattle.meaning.specs.Tables.{packed}
use Rattle.meaning.specs.Tests.{any}

-- a column's place in a key: none, where the mask's lowest bit is 0
abbrev pub named : Bool → ℕ → List ℕ → List ℕ
named true x xs = xs
named false x xs = x ∷ xs

-- the columns that the mask names; column 0 is the bit of weight 1
unfoldable pub chosen : ℕ → List ℕ → List ℕ
chosen m [] = []
chosen m (x ∷ xs) = named (eqb (m % 2) 0) x (chosen (m / 2) xs)

unfoldable pub columns_key : ℕ → List ℕ → ℕ
columns_key m xs = packed (chosen m xs)

-- columns as a key has them: the number of a value is kept, and those that are unused are alike
abbrev pub low : ℕ → ℕ
low v = v % max_values

-- the columns of a row that stand from a place on
unfoldable pub columns_at : List ℕ → ℕ → List ℕ
columns_at rows first = map low (take max_columns (drop first rows))

-- some entry has this left key
abbrev pub has_left : ℕ → List ℕ → Bool
has_left l = any (λ x. eqb x l)

-- some entry has this left key and another right key
unfoldable pub differs : ℕ → ℕ → List ℕ → List ℕ → Bool
differs l r [] ys = false
differs l r (x ∷ xs) [] = false
differs l r (x ∷ xs) (y ∷ ys) = (eqb x l && not (eqb y r)) || differs l r xs ys
