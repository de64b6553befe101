-- Parts of a list by their places. Assumes nothing.
use lib.ListN.{drop, get_or, length, length-drop, length-take, take, take-append-drop}
use lib.Seq.{drop-append-le, drop-drop, ext_get_or, get_or-drop, get_or-take, length-take-le, slice, slice-cons, take-take}
use mathlib.Core.List.{List, [], ◌∷◌, ◌++◌}
use mathlib.Core.Path.{◌≡◌, sym, ap, ◌∙◌}
use native.Mathlib.Nat.{zero-add, suc-add, add-sub_cancel_left}
use native.Mathlib.Numerals.{add-one}
use native.Mathlib.Omega.{arith}
use Prim.Native.Nat.{ℕ, zero, suc, ◌+◌, ◌-◌, ◌≤◌, ◌<◌}

module _ {A : Type 0} where
  take_drop : (n f : ℕ) (l : List A) → take n (drop f l) ≡ drop f (take (f + n) l)
  take_drop n zero l = ap (λ (k : ℕ). take k l) (sym (zero-add n))
  take_drop zero (suc f) [] = rw suc-add
  take_drop (suc n) (suc f) [] = rw suc-add
  take_drop n (suc f) (x ∷ l) = rw suc-add (take_drop n f l)

  -- a part by its start and length
  pub slice_by : (f n : ℕ) (l : List A) → take n (drop f l) ≡ slice f (f + n) l
  slice_by f n l = take_drop n f l

  pub take_slice : (n f t : ℕ) (l : List A) → f + n ≤ t → take n (slice f t l) ≡ slice f (f + n) l
  take_slice n f t l h = take_drop n f (take t l) ∙ ap (drop f) (take-take (f + n) t l h)

  pub drop_slice : (n f t : ℕ) (l : List A) → drop n (slice f t l) ≡ slice (f + n) t l
  drop_slice n f t l = drop-drop n f (take t l)

  pub slice_front : (f t : ℕ) (l : List A) (d : A) → f < t → t ≤ length l → slice f t l ≡ get_or l f d ∷ slice (f + 1) t l
  slice_front f t l d h k = rw add-one (slice-cons f t l d h k)

  -- a part in two
  pub slice_join : (f m t : ℕ) (l : List A) → f ≤ m → m ≤ t → t ≤ length l → slice f t l ≡ slice f m l ++ slice m t l
  slice_join f m t l h k g =
      let e : take t l ≡ take m l ++ drop m (take t l) = sym (rw (take-take m t l k) at (take-append-drop m (take t l))) in
      ap (drop f) e ∙ drop-append-le f (take m l) (drop m (take t l)) (omega (arith, length-take-le m l (omega arith)))

  -- a part of the front of a list
  pub part_of : (l p : List A) (m k w : ℕ) → take m l ≡ p → k + w ≤ m → take w (drop k l) ≡ take w (drop k p)
  part_of l p m k w e h =
      let n : m ≡ k + (m - k) = omega arith in
      sym (take-take w (m - k) (drop k l) (omega arith)) ∙ ap (λ (t : List A). take w t) (slice_by k (m - k) l)
      ∙ ap (λ (j : ℕ). take w (drop k (take j l))) (sym n) ∙ ap (λ (t : List A). take w (drop k t)) e

  -- lists with the same front have the same parts there
  pub same_part : (w p at : ℕ) (xs ys : List A) → p + w ≤ at → take at xs ≡ take at ys → take w (drop p xs) ≡ take w (drop p ys)
  same_part w p at xs ys h e =
      slice_by p w xs
      ∙ ap (drop p) (sym (take-take (p + w) at xs h) ∙ ap (take (p + w)) e ∙ take-take (p + w) at ys h)
      ∙ sym (slice_by p w ys)

-- ---- numbers that stand at a place

module _ (l ns : List ℕ) (at w : ℕ) (e : take w (drop at l) ≡ ns) where
  pub number_at : (j : ℕ) → j < w → get_or l (at + j) 0 ≡ get_or ns j 0
  number_at j h = sym (get_or-drop at l j 0) ∙ sym (get_or-take w (drop at l) j 0 h) ∙ ap (λ (t : List ℕ). get_or t j 0) e

  pub first_is_at : 0 < w → get_or l at 0 ≡ get_or ns 0 0
  first_is_at h = let z : at + 0 ≡ at = omega arith in ap (λ (i : ℕ). get_or l i 0) (sym z) ∙ number_at 0 h

  pub slice_at : (a b : ℕ) → b ≤ w → slice (at + a) (at + b) l ≡ slice a b ns
  slice_at a b h =
      sym (drop-drop a at (take (at + b) l)) ∙ ap (λ (t : List ℕ). drop a t) (sym (slice_by at b l))
      ∙ ap (λ (t : List ℕ). drop a t) (sym (take-take b w (drop at l) h)) ∙ ap (λ (t : List ℕ). slice a b t) e

-- ---- numbers that are equal, and parts as code names them

-- equal numbers at the places from a on
pub part_same : (a k : ℕ) (xs ys : List ℕ) → length xs ≡ length ys → ((i : ℕ) → i < a + k → get_or xs i 0 ≡ get_or ys i 0) → take k (drop a xs) ≡ take k (drop a ys)
part_same a k xs ys l h = ext_get_or 0 (take k (drop a xs)) (take k (drop a ys)) long same
  where
    long : length (take k (drop a xs)) ≡ length (take k (drop a ys))
    long = omega (arith, l, length-take k (drop a xs), length-take k (drop a ys), length-drop a xs, length-drop a ys)

    same : (c : ℕ) → c < length (take k (drop a xs)) → get_or (take k (drop a xs)) c 0 ≡ get_or (take k (drop a ys)) c 0
    same c u =
        let b : c < k = omega (arith, u, length-take k (drop a xs)) in
        get_or-take k (drop a xs) c 0 b ∙ get_or-drop a xs c 0 ∙ h (a + c) (omega (arith, b)) ∙ sym (get_or-drop a ys c 0) ∙ sym (get_or-take k (drop a ys) c 0 b)

-- the part from a on, of k numbers
pub as_part : (P : List ℕ → Type 0) (a k : ℕ) (xs : List ℕ) → P (take k xs) → P (take (a + k - a) xs)
as_part P a k xs h = rw (add-sub_cancel_left a k) h
