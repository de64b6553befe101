-- The loop that makes a row's key: what is left to add, and that it fits. Assumes nothing.
use borrow.Author.Tests.{eq-eqb, ne_eqb}
use lib.Dec.{eqb}
use lib.ListN.{drop, drop_of_length-le, get_or, length, length-drop, get_or-map, take, length-map}
use lib.Seq.{drop-cons, get_or-drop, get_or-take, length-take-le}
use mathlib.Core.Bool.{Bool, true, false}
use mathlib.Core.List.{List, [], ◌∷◌, foldl}
use mathlib.Core.Path.{◌≡◌, refl, sym, ap, ◌∙◌}
use native.Mathlib.Numerals.{add-one}
use native.Mathlib.Omega.{arith}
use Prim.Native.Nat.{ℕ, zero, suc, ◌+◌, ◌*◌, ◌-◌, ◌/◌, ◌%◌, ◌≤◌, ◌<◌}
use Rattle.meaning.specs.Limits.{max_columns, max_values}
use Rattle.meaning.specs.Tables.{packed}
use Rattle.depends.specs.Keys.{chosen, columns_at, columns_key, low, named}

-- ---- a key fits 64 bits

-- what the keys of n columns are below
unfoldable pub below : ℕ → ℕ
below zero = 1
below (suc n) = max_values * below n

below_le : (n m : ℕ) → n ≤ m → below n ≤ below m
unfolding below
below_le zero zero h = omega arith
below_le zero (suc m) h = let k = below_le zero m (omega arith) in omega (arith, k)
below_le (suc n) zero h = absurd (let z : ⊥ = omega arith in z)
below_le (suc n) (suc m) h = let k = below_le n m (omega arith) in omega (arith, k)

below_columns : below max_columns ≡ 18446744073709551616
unfolding below
below_columns = refl

below_more : (n k v : ℕ) → k < below n → v < max_values → k * max_values + v < below (n + 1)
unfolding below
below_more n k v h g = rw (add-one n) (omega (arith, h, g))

-- ---- what is left to add

-- a key and one value more
abbrev pub step : ℕ → ℕ → ℕ
step k v = k * max_values + v

pub length_columns : (rows : List ℕ) (first : ℕ) → first + max_columns ≤ length rows → length (columns_at rows first) ≡ max_columns
unfolding columns_at
length_columns rows first h = length-map (take max_columns (drop first rows)) low ∙ length-take-le max_columns (drop first rows) (omega (arith, length-drop first rows))

column : (rows : List ℕ) (first c : ℕ) → c < max_columns → get_or (columns_at rows first) c 0 ≡ low (get_or rows (first + c) 0)
unfolding columns_at
column rows first c h = get_or-map low (take max_columns (drop first rows)) c 0 ∙ ap low (get_or-take max_columns (drop first rows) c 0 h ∙ get_or-drop first rows c 0)

none_chosen : (xs : List ℕ) → chosen 0 xs ≡ []
unfolding chosen
none_chosen [] = refl
none_chosen (x ∷ xs) = none_chosen xs

-- the columns from c on are to be added, those that the rest of the mask names
pub record Keying (rows : List ℕ) (mask first k rest c : ℕ) : Type 0 where
  pub inside : first + max_columns ≤ length rows
  pub is : foldl step k (chosen rest (drop c (columns_at rows first))) ≡ columns_key mask (columns_at rows first)
  pub low_key : k < below c
  pub before : c ≤ max_columns

pub keying_start : (rows : List ℕ) (mask first : ℕ) → first + max_columns ≤ length rows → Keying rows mask first 0 mask 0
unfolding below columns_key packed
keying_start rows mask first h = record { inside = h; is = refl; low_key = omega arith; before = omega arith }

-- no column is named any more
pub keying_none : {rows : List ℕ} {mask first k rest c : ℕ} → Keying rows mask first k rest c → rest ≡ 0 → k ≡ columns_key mask (columns_at rows first)
keying_none {rows} {mask} {first} {k} {rest} {c} p e =
    ap (foldl step k) (sym (ap (λ m. chosen m (drop c (columns_at rows first))) e ∙ none_chosen (drop c (columns_at rows first)))) ∙ p.is

pub keying_done : {rows : List ℕ} {mask first k rest c : ℕ} → Keying rows mask first k rest c → max_columns ≤ c → k ≡ columns_key mask (columns_at rows first)
unfolding chosen
keying_done {rows} {mask} {first} {k} {rest} {c} p h =
    let g : length (columns_at rows first) ≤ c = omega (arith, length_columns rows first p.inside, h) in
    ap (λ l. foldl step k (chosen rest l)) (sym (drop_of_length-le (columns_at rows first) g)) ∙ p.is

module _ {rows : List ℕ} {mask first k rest c : ℕ} (p : Keying rows mask first k rest c) (h : c < max_columns) where
  pub keying_room : k * max_values + (max_values - 1) < 18446744073709551616
  keying_room = omega (arith, below_more c k (max_values - 1) p.low_key (omega arith), below_le (c + 1) max_columns (omega (arith, h)), below_columns)

  next : (b : Bool) → eqb (rest % 2) 0 ≡ b → foldl step k
      (named b (low (get_or rows (first + c) 0)) (chosen (rest / 2) (drop (c + 1) (columns_at rows first)))) ≡ columns_key mask (columns_at rows first)
  unfolding chosen
  next b e =
      let q : drop c (columns_at rows first) ≡ low (get_or rows (first + c) 0) ∷ drop (c + 1) (columns_at rows first) =
      rw (drop-cons (columns_at rows first) c 0 (omega (arith, length_columns rows first p.inside, h)), column rows first c h, add-one c) in
      ap (λ b. foldl step k (named b (low (get_or rows (first + c) 0)) (chosen (rest / 2) (drop (c + 1) (columns_at rows first))))) (sym e)
      ∙ ap (λ l. foldl step k (chosen rest l)) (sym q) ∙ p.is

  pub keying_skips : rest % 2 ≡ 0 → Keying rows mask first k (rest / 2) (c + 1)
  keying_skips e = record {
    inside = p.inside;
    is = next true (eq-eqb _ _ e);
    low_key = omega (arith, p.low_key, below_more c k 0 p.low_key (omega arith));
    before = omega (arith, h);
  }

  pub keying_takes : (rest % 2 ≡ 0 → ⊥) → Keying rows mask first (k * max_values + low (get_or rows (first + c) 0)) (rest / 2) (c + 1)
  keying_takes e = record {
    inside = p.inside;
    is = next false (ne_eqb _ _ e);
    low_key = below_more c k (low (get_or rows (first + c) 0)) p.low_key (omega arith);
    before = omega (arith, h);
  }
