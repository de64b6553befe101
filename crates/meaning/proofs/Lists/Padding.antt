-- Lists behind lists, lists with one number repeated behind them, and lists of zeros. Assumes nothing.
use lib.ListN.{get_or-append, get_or, get_or-replicate, length, length-append, length-replicate, drop, replicate, replicate-append-replicate, take}
use lib.Seq.{drop_at, get_or-append-add, get_or-take, length-take-le, take-append_seam, take_at, take-take}
use mathlib.Core.List.{List, ◌++◌}
use mathlib.Core.Path.{◌≡◌, sym, ap, ◌∙◌}
use native.Mathlib.Omega.{arith}
use Prim.Native.Nat.{ℕ, ◌+◌, ◌-◌, ◌≤◌, ◌<◌}

-- an element of the second of two lists
pub at_second : (xs ys : List ℕ) (i : ℕ) → length xs ≤ i → get_or ys (i - length xs) 0 ≡ get_or (xs ++ ys) i 0
at_second xs ys i h =
    let e : i ≡ length xs + (i - length xs) = omega arith in
    sym (ap (λ (j : ℕ). get_or (xs ++ ys) j 0) e ∙ get_or-append-add xs ys (i - length xs) 0)

-- a list with one number repeated behind it
abbrev pub padded : ℕ → ℕ → List ℕ → List ℕ
padded n z xs = xs ++ replicate n z

pub length_padded : (n z : ℕ) (xs : List ℕ) → length (padded n z xs) ≡ length xs + n
length_padded n z xs = length-append xs (replicate n z) ∙ ap (λ (m : ℕ). length xs + m) (length-replicate n z)

pub padded_wide : (n z : ℕ) (xs : List ℕ) → length (take n (padded n z xs)) ≡ n
padded_wide n z xs = length-take-le n (padded n z xs) (omega (arith, length_padded n z xs))

module _ (n z : ℕ) (xs : List ℕ) (i : ℕ) where
  pub padded_front : i < length xs → i < n → get_or xs i 0 ≡ get_or (take n (padded n z xs)) i 0
  padded_front h k = sym (get_or-take n (padded n z xs) i 0 k ∙ get_or-append xs (replicate n z) 0 i h)

  pub padded_past : length xs ≤ i → i < n → z ≡ get_or (take n (padded n z xs)) i 0
  padded_past h k = sym (get_or-replicate n (i - length xs) z 0 (omega arith)) ∙ at_second xs (replicate n z) i h ∙ sym (get_or-take n (padded n z xs) i 0 k)

-- what stands before the padding
pub unpadded : {A : Type 0} (xs ys : List A) (w : ℕ) → length xs ≤ w → take (length xs) (take w (xs ++ ys)) ≡ xs
unpadded xs ys w h = take-take (length xs) w (xs ++ ys) h ∙ take-append_seam xs ys

-- ---- zeros

pub drop_zeros : (k n m : ℕ) → n ≡ k + m → drop {A = ℕ} k (replicate n 0) ≡ replicate m 0
drop_zeros k n m e =
    ap (λ (j : ℕ). drop {A = ℕ} k (replicate j 0)) e ∙ ap (drop k) (sym (replicate-append-replicate k m 0))
    ∙ drop_at (replicate k 0) (replicate m 0) k (length-replicate {A = ℕ} k 0)

pub take_zeros : (m n k : ℕ) → n ≡ m + k → take {A = ℕ} m (replicate n 0) ≡ replicate m 0
take_zeros m n k e =
    ap (λ (j : ℕ). take {A = ℕ} m (replicate j 0)) e ∙ ap (take m) (sym (replicate-append-replicate m k 0))
    ∙ take_at (replicate m 0) (replicate k 0) m (length-replicate {A = ℕ} m 0)
