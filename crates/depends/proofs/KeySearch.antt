-- The loops that look for another right key, part by part of the lists. Assumes nothing.
use Rattle.std.specs.List.{list_any, zip}
use lib.Dec.{eqb}
use lib.ListN.{get_or, length}
use lib.Seq.{length-slice, slice, slice_empty}
use mathlib.Core.Bool.{Bool, true, false, not, ◌&&◌, ◌||◌, or_assoc, or-false}
use mathlib.Core.List.{List, [], ◌∷◌, ◌++◌}
use mathlib.Core.Path.{◌≡◌, refl, sym, ap, ◌∙◌}
use native.Mathlib.Omega.{arith}
use Prim.Native.Nat.{ℕ, ◌+◌, ◌≤◌, ◌<◌}
use Rattle.meaning.proofs.Lists.Parts.{slice_front, slice_join}
use Rattle.meaning.specs.Limits.{max_rows}
use Rattle.depends.specs.Keys.{differs, has_left}

-- ---- parts

differs_join : (l r : ℕ) (ws xs ys zs : List ℕ) → length ws ≡ length ys → differs l r (ws ++ xs) (ys ++ zs) ≡ (differs l r ws ys || differs l r xs zs)
unfolding differs
differs_join l r [] xs [] zs e = refl
differs_join l r [] xs (y ∷ ys) zs e = absurd (omega arith)
differs_join l r (w ∷ ws) xs [] zs e = absurd (omega arith)
differs_join l r (w ∷ ws) xs (y ∷ ys) zs e =
    rw (differs_join l r ws xs ys zs (omega arith)) (sym (or_assoc (eqb w l && not (eqb y r)) (differs l r ws ys) (differs l r xs zs)))

-- no left key is this one, so none has another right key
pub left_differs : (l r : ℕ) (xs ys : List ℕ) → has_left l xs ≡ false → false ≡ differs l r xs ys
unfolding differs
left_differs l r [] ys e = refl
left_differs l r (x ∷ xs) [] e = refl
left_differs l r (x ∷ xs) (y ∷ ys) e = go (eqb x l) e (left_differs l r xs ys)
  where
    go : (b : Bool) → (b || has_left l xs) ≡ false → (has_left l xs ≡ false → false ≡ differs l r xs ys) → false ≡ ((b && not (eqb y r)) || differs l r xs ys)
    go true h f = (cc)
    go false h f = f h

-- two keys at a time
pub zipped : (l r : ℕ) (xs ys : List ℕ) → list_any (λ (p : ℕ × ℕ). eqb p.0 l && not (eqb p.1 r)) (zip xs ys) ≡ differs l r xs ys
unfolding differs
zipped l r [] ys = refl
zipped l r (x ∷ xs) [] = refl
zipped l r (x ∷ xs) (y ∷ ys) = ap (λ b. (eqb x l && not (eqb y r)) || b) (zipped l r xs ys)

-- ---- the entries from a place on, up to n: those before i do not differ

pub record Looking (ls rs : List ℕ) (l r from n i : ℕ) : Type 0 where
  pub few : n ≤ max_rows
  pub lefts_long : length ls ≡ max_rows
  pub rights_long : length rs ≡ max_rows
  pub is : differs l r (slice i n ls) (slice i n rs) ≡ differs l r (slice from n ls) (slice from n rs)

pub looking_start : (ls rs : List ℕ) (l r from n : ℕ) → n ≤ max_rows → length ls ≡ max_rows → length rs ≡ max_rows → Looking ls rs l r from n from
looking_start ls rs l r from n f h g = record { few = f; lefts_long = h; rights_long = g; is = refl }

module _ {ls rs : List ℕ} {l r from n i : ℕ} (p : Looking ls rs l r from n i) where
  -- what is said of the entries up to m
  module _ (m : ℕ) {b : Bool} (e : b ≡ differs l r (slice i m ls) (slice i m rs)) (h : i ≤ m) (k : m ≤ n) where
    step : (b || differs l r (slice m n ls) (slice m n rs)) ≡ differs l r (slice from n ls) (slice from n rs)
    step =
        let f = p.few in
        let g = p.lefts_long in
        let q = p.rights_long in
        let same : length (slice i m ls) ≡ length (slice i m rs) = length-slice i m ls (omega arith) ∙ sym (length-slice i m rs (omega arith)) in
        let joined = differs_join l r (slice i m ls) (slice m n ls) (slice i m rs) (slice m n rs) same in
        rw (e, ← joined, ← slice_join i m n ls h k (omega arith), ← slice_join i m n rs h k (omega arith)) p.is

    pub looking_found : b ≡ true → true ≡ differs l r (slice from n ls) (slice from n rs)
    looking_found t = rw t at step

    pub looking_on : b ≡ false → Looking ls rs l r from n m
    looking_on t = record { few = p.few; lefts_long = p.lefts_long; rights_long = p.rights_long; is = rw t at step }

-- ---- four left keys

module _ (ls : List ℕ) (l i : ℕ) (h : i + 4 ≤ length ls) where
  front : (f g : ℕ) → g ≡ f + 1 → f < i + 4 → has_left l (slice f (i + 4) ls) ≡ (eqb (get_or ls f 0) l || has_left l (slice g (i + 4) ls))
  front f g e k = rw (e, slice_front f (i + 4) ls 0 k h)

  last : has_left l (slice (i + 3) (i + 4) ls) ≡ eqb (get_or ls (i + 3) 0) l
  last = rw (front (i + 3) (i + 4) (omega arith) (omega arith), slice_empty (i + 4) ls) (or-false (eqb (get_or ls (i + 3) 0) l))

  pub four_left : (eqb (get_or ls i 0) l || eqb (get_or ls (i + 1) 0) l || eqb (get_or ls (i + 2) 0) l || eqb (get_or ls (i + 3) 0) l) ≡ has_left l (slice i (i + 4) ls)
  four_left =
      rw (front i (i + 1) refl (omega arith), front (i + 1) (i + 2) (omega arith) (omega arith), front (i + 2) (i + 3) (omega arith) (omega arith), last)
      (simp or_assoc)
