-- Tests on lists that compute. Assumes nothing.
use Rattle.std.specs.Prelude.{leb, eqb, Bool, true, false, ◌&&◌, ◌||◌, List, [], ◌∷◌, ℕ}
use Rattle.std.proofs.Math.Option.{Option, none, some}

-- lo ≤ n ≤ hi
abbrev pub within : ℕ → ℕ → ℕ → Bool
within lo hi n = leb lo n && leb n hi

module _ {A : Type 0} where
  abbrev pub every : (A → Bool) → List A → Bool
  every f [] = true
  every f (x ∷ xs) = f x && every f xs

  abbrev pub any : (A → Bool) → List A → Bool
  any f [] = false
  any f (x ∷ xs) = f x || any f xs

  -- some entry passes the test together with a later one
  abbrev pub any_two : (A → A → Bool) → List A → Bool
  any_two f [] = false
  any_two f (x ∷ xs) = any (f x) xs || any_two f xs

  -- there is an entry, and it passes the test
  abbrev pub there_and : (A → Bool) → Option A → Bool
  there_and f none = false
  there_and f (some x) = f x

abbrev pub elem : ℕ → List ℕ → Bool
elem n xs = any (eqb n) xs

abbrev pub same_text : List ℕ → List ℕ → Bool
same_text [] [] = true
same_text [] (y ∷ ys) = false
same_text (x ∷ xs) [] = false
same_text (x ∷ xs) (y ∷ ys) = eqb x y && same_text xs ys

-- the first text begins the second, or equals it
abbrev pub begins : List ℕ → List ℕ → Bool
begins [] ys = true
begins (x ∷ xs) [] = false
begins (x ∷ xs) (y ∷ ys) = eqb x y && begins xs ys
