-- Laws of keys: two numbers of a record whose numbers stand at a place. Assumes nothing.
use lib.Dec.{eqb}
use lib.ListN.{drop, get_or, get_elem?, length, length-drop, take}
use lib.Seq.{drop-drop}
use mathlib.Core.Bool.{Bool, ◌&&◌, ◌||◌}
use mathlib.Core.List.{List, [], ◌∷◌}
use mathlib.Core.Option.{some}
use mathlib.Core.Path.{◌≡◌, ap, sym, ◌∙◌}
use native.Mathlib.Nat.{le_of_suc-le-suc, not-suc-le-zero}
use native.Mathlib.Omega.{arith}
use Prim.Native.Nat.{ℕ, suc, zero, ◌*◌, ◌+◌, ◌<◌, ◌≤◌}
use Rattle.meaning.proofs.Lists.Places.{there_is}
use Rattle.meaning.specs.Limits.{constructor_width, shape_width, text_width}
use Rattle.meaning.specs.Tests.{begins, same_text}
use Rattle.pack.specs.Shown.{text_at}
use Rattle.records.specs.Numbers.{NumbersOf}
use Rattle.texts.specs.Compared.{first_of, Keyed, key_kind, Records, SaysTwo, Shows, SomeRecords, SomeShows, width_of}
use Rattle.texts.specs.declared.Key.{Key}
use Rattle.texts.specs.declared.Key.TheVariants.{Cell, Prefix, Text}
use Rattle.meaning.proofs.Lists.Parts.{number_at}

-- ---- the numbers at a place

in_take : (k i : ℕ) (xs : List ℕ) → i < length (take k xs) → (i < k) × (i < length xs)
in_take zero i xs h = absurd (not-suc-le-zero h)
in_take (suc k) i [] h = absurd (not-suc-le-zero h)
in_take (suc k) zero (x ∷ xs) h = (omega arith, omega arith)
in_take (suc k) (suc i) (x ∷ xs) h = let r = in_take k i xs (le_of_suc-le-suc h) in (omega (arith, r.0), omega (arith, r.1))

module _ (numbers : List ℕ) (k p : ℕ) {ys : List ℕ} (e : take k (drop p numbers) ≡ ys) (i : ℕ) (h : i < length ys) where
  within : (i < k) × (i < length (drop p numbers))
  within = in_take k i (drop p numbers) (rw e h)

  there : p + i < length numbers
  unfolding within
  there = omega (arith, within.1, length-drop p numbers)

  number : get_or numbers (p + i) 0 ≡ get_or ys i 0
  unfolding within
  number = number_at numbers ys p k e i within.0

after : (numbers : List ℕ) (p i : ℕ) {x : ℕ} → get_or numbers (p + (i + 1)) 0 ≡ x → get_or numbers (p + i + 1) 0 ≡ x
after numbers p i e = ap (λ z. get_or numbers z 0) (omega arith) ∙ e

-- ---- the key of a record whose numbers stand at a place

-- the record's numbers stand there
record Stands (key : Key) (s : List ℕ) (it : Keyed key) (numbers : List ℕ) (p : ℕ) : Type 0 where
  are : NumbersOf (key_kind key) s it (take (width_of key) (drop p numbers))

module _ {s numbers : List ℕ} {p : ℕ} where
  shows_at : (key : Key) {x : Keyed key} → Stands key s x numbers p → Shows key s x (get_or numbers (p + first_of key) 0) (get_or numbers (p + first_of key + 1) 0)
  shows_at Text g =
      let q = g.are in
      record {
        is = rw (number numbers text_width p q.are 0 (omega arith), after numbers p 0 (number numbers text_width p q.are 1 (omega arith))) q.stands;
      }
  shows_at Prefix g =
      let q = g.are in
      record {
        is = rw (number numbers constructor_width p q.are 1 (omega arith), after numbers p 1 (number numbers constructor_width p q.are 2 (omega arith))) q.stands;
      }
  shows_at Cell g = record {
    is = (sym (number numbers shape_width p g.are 0 (omega arith)), sym (after numbers p 0 (number numbers shape_width p g.are 1 (omega arith))));
  }

  inside_at : (key : Key) {x : Keyed key} → Stands key s x numbers p → p + first_of key + 1 < length numbers
  inside_at Text g = omega (arith, there numbers text_width p g.are.are 1 (omega arith))
  inside_at Prefix g = omega (arith, there numbers constructor_width p g.are.are 2 (omega arith))
  inside_at Cell g = omega (arith, there numbers shape_width p g.are 1 (omega arith))

-- ---- the keys of a body's records, the first from `first` on

place : (first at o width i : ℕ) → first ≡ at + o → first + i * width ≡ at + i * width + o
place first at o width i f = omega (arith, f)

module _ {key : Key} {s numbers : List ℕ} {at n first width : ℕ} (w : width ≡ width_of key) (f : first ≡ at + first_of key) where
  stands_at : {records : List (Keyed key)} → Records key s records numbers at n → (i : ℕ) (x : Keyed key) → get_elem? records i ≡ some x
      → Stands key s x numbers (at + i * width)
  stands_at p i x e = record { are = rw (w, sym (drop-drop (i * width_of key) at numbers)) (p.held.each i x e) }

  pub record_shows : {records : List (Keyed key)} → Records key s records numbers at n → (i : ℕ) (x : Keyed key) → get_elem? records i ≡ some x
      → Shows key s x (get_or numbers (first + i * width) 0) (get_or numbers (first + i * width + 1) 0)
  record_shows p i x e = rw (place first at (first_of key) width i f) (shows_at key (stands_at p i x e))

  pub some_shows : SomeRecords key s numbers at n → (i : ℕ) → i < n → SomeShows key s (get_or numbers (first + i * width) 0) (get_or numbers (first + i * width + 1) 0)
  some_shows g i h =
      let x = there_is g.list i (omega (arith, g.records.many)) in
      record { it = x.0; shows = record_shows g.records i x.0 x.1 }

  pub place_inside : SomeRecords key s numbers at n → (i : ℕ) → i < n → first + i * width + 1 < length numbers
  place_inside g i h =
      let x = there_is g.list i (omega (arith, g.records.many)) in
      rw (place first at (first_of key) width i f) (inside_at key (stands_at g.records i x.0 x.1))

-- ---- what two keys say

module _ {key : Key} {s : List ℕ} {a n : ℕ} where
  pub text_inside : key ≡ Text → SomeShows key s a n → a + n ≤ length s
  text_inside e g = let h : SomeShows Text s a n = rw e at g in h.shows.is.inside

  pub prefix_inside : key ≡ Prefix → SomeShows key s a n → a + n ≤ length s
  prefix_inside e g = let h : SomeShows Prefix s a n = rw e at g in h.shows.is.inside

  module _ {b m : ℕ} {r : Bool} where
    pub says_texts : key ≡ Text → r ≡ same_text (text_at s a n) (text_at s b m) → SaysTwo key s a n b m r
    says_texts e h = rw e (λ x y g k. rw (g.is.is, k.is.is) h)

    pub says_prefixes : key ≡ Prefix → r ≡ (begins (text_at s a n) (text_at s b m) || begins (text_at s b m) (text_at s a n)) → SaysTwo key s a n b m r
    says_prefixes e h = rw e (λ x y g k. rw (g.is.is, k.is.is) h)

    pub says_cells : key ≡ Cell → r ≡ (eqb a b && eqb n m) → SaysTwo key s a n b m r
    says_cells e h = rw e (λ x y g k. rw (g.is.0, g.is.1, k.is.0, k.is.1) h)
