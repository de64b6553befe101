-- A list whose entries are put one after another, from its front: each by its number, those of another list, one number. Assumes nothing.
use borrow.Author.Fill.{fill_more}
use lib.ListN.{drop, drop_of_length-le, get_or, length, length-drop, length-set, replicate, set, take}
use lib.Seq.{ext_get_or, get_or-drop, get_or-set_other, get_or-set_same, get_or-take, length-take-le, take_all, take-suc, take-suc-set}
use mathlib.Core.List.{List, ◌++◌, append-nil}
use mathlib.Core.Path.{◌≡◌, refl, sym, ap, ◌∙◌}
use native.Mathlib.Decide.{ℕ_discrete}
use native.Mathlib.Nat.{le_antisymm}
use native.Mathlib.Numerals.{add-one}
use native.Mathlib.Omega.{arith}
use Prim.Native.Nat.{ℕ, ◌+◌, ◌≤◌, ◌<◌, zero-le}

-- the first n are put
pub record Put {A : Type 0} (f : ℕ → A) (d : A) (long n : ℕ) (table : List A) : Type 0 where
  pub many : length table ≡ long
  pub each : (i : ℕ) → i < n → get_or table i d ≡ f i

module _ {A : Type 0} {f : ℕ → A} {d : A} {long : ℕ} where
  pub put_start : (table : List A) → length table ≡ long → Put f d long 0 table
  put_start table e = record { many = e; each = λ i h. absurd (omega (arith, h)) }

  pub put_on : {n : ℕ} {table : List A} {v : A} → Put f d long n table → n < long → v ≡ f n → Put f d long (n + 1) (set table n v)
  put_on {n} {table} {v} p h e = record { many = length-set table n v ∙ p.many; each = λ i l. go i l (ℕ_discrete i n) }
    where
      go : (i : ℕ) → i < n + 1 → Dec (i ≡ n) → get_or (set table n v) i d ≡ f i
      go i l (yes q) = ap (λ (j : ℕ). get_or (set table n v) j d) q ∙ get_or-set_same table n v d (omega (arith, h, p.many)) ∙ e ∙ ap f (sym q)
      go i l (no q) = get_or-set_other table n i v d q ∙ p.each i (omega (arith, l, q))

-- all of so many numbers from a place on
pub copied : (numbers : List ℕ) (at : ℕ) {w n : ℕ} {table : List ℕ} → Put (λ i. get_or numbers (at + i) 0) 0 w n table → w ≤ n → at + w ≤ length numbers
    → table ≡ take w (drop at numbers)
copied numbers at {w} {n} {table} p h l =
    let m : length (take w (drop at numbers)) ≡ w = length-take-le w (drop at numbers) (omega (arith, l, length-drop at numbers)) in
    ext_get_or 0 table (take w (drop at numbers)) (p.many ∙ sym m) (λ i k.
    let j : i < w = omega (arith, k, p.many) in
    p.each i (omega (arith, j, h)) ∙ sym (get_or-drop at numbers i 0) ∙ sym (get_or-take w (drop at numbers) i 0 j))

-- ---- n numbers filled in from the front: the first i are those of xs

pub record Filling (n : ℕ) (xs : List ℕ) (i : ℕ) (d : List ℕ) : Type 0 where
  pub within : i ≤ n
  pub many : length xs ≡ n
  pub long : length d ≡ n
  pub is : take i d ≡ take i xs

pub filling_start : {n : ℕ} (xs d : List ℕ) → length xs ≡ n → length d ≡ n → Filling n xs 0 d
filling_start xs d m e = record { within = zero-le; many = m; long = e; is = refl }

module _ {n : ℕ} {xs : List ℕ} {i : ℕ} {d : List ℕ} (f : Filling n xs i d) where
  pub filling_on : {v : ℕ} → v ≡ get_or xs i 0 → i < n → Filling n xs (i + 1) (set d i v)
  filling_on {v} e h = record {
    within = omega arith;
    many = f.many;
    long = length-set d i v ∙ f.long;
    is = rw (add-one, take-suc-set d i v (omega (arith, f.long)), f.is, e, ← take-suc xs i 0 (omega (arith, f.many)));
  }

  pub filling_done : n ≤ i → d ≡ xs
  filling_done h = sym (take_all i d (omega (arith, f.long))) ∙ f.is ∙ take_all i xs (omega (arith, f.many))

-- ---- one number in every place

-- d is d₀ with its first i elements filled with v
pub record Filled (i v : ℕ) (d₀ d : List ℕ) : Type 0 where
  pub within : i ≤ length d₀
  pub long : length d ≡ length d₀
  pub is : d ≡ replicate i v ++ drop i d₀

pub fill_start : (v : ℕ) (d : List ℕ) → Filled 0 v d d
fill_start v d = record { within = zero-le; long = refl; is = refl }

pub fill_again : {i v : ℕ} {d₀ d : List ℕ} → Filled i v d₀ d → i < length d₀ → Filled (i + 1) v d₀ (set d i v)
fill_again {i} {v} {d₀} {d} f h = record {
  within = omega arith;
  long = length-set d i v ∙ f.long;
  is = rw f.is (fill_more i v d₀ h);
}

-- once the end is reached nothing is left of the old list
pub fill_done : {i v : ℕ} {d₀ d : List ℕ} → Filled i v d₀ d → length d₀ ≤ i → d ≡ replicate (length d₀) v
fill_done f h = f.is ∙ rw (drop_of_length-le, le_antisymm f.within h, append-nil)
