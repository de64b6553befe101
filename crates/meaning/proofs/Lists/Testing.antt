-- Loops that test the entries of a list, or of a part of one: what is left to look at decides as all do. Assumes nothing.
use borrow.Author.Tests.{not-false, not-true}
use lib.ListN.{drop, drop_of_length-le, get_or, get_elem?, length}
use lib.Seq.{slice, slice_empty}
use mathlib.Core.Bool.{Bool, true, false, not}
use mathlib.Core.List.{List, [], ◌∷◌}
use mathlib.Core.Option.{some}
use mathlib.Core.Path.{◌≡◌, refl, sym, ap, ◌∙◌}
use native.Mathlib.Numerals.{add-one}
use native.Mathlib.Omega.{arith}
use Prim.Native.Nat.{ℕ, ◌+◌, ◌≤◌, ◌<◌}
use Rattle.meaning.proofs.Lists.Parts.{slice_front}
use Rattle.meaning.proofs.Lists.Places.{drop_entry, there_is}
use Rattle.meaning.specs.Tests.{any, every}

-- what a test's answer says
pub passed : {b x : Bool} → b ≡ x → not b ≡ false → x ≡ true
passed {b} e n = sym e ∙ not-false b n

pub failed : {b x : Bool} → b ≡ x → not b ≡ true → x ≡ false
failed {b} e n = sym e ∙ not-true b n

module _ {A : Type 0} where
  -- the entries from i on
  pub record Left (g : List A → Bool) (xs : List A) (i : ℕ) : Type 0 where
    pub is : g (drop i xs) ≡ g xs

  pub left_start : (g : List A → Bool) (xs : List A) → Left g xs 0
  left_start g xs = record { is = refl }

  module _ {g : List A → Bool} {xs : List A} {i : ℕ} (l : Left g xs i) where
    step : {x : A} {b : Bool} → get_elem? xs i ≡ some x → g (x ∷ drop (i + 1) xs) ≡ b → b ≡ g xs
    step {x} e h = sym h ∙ ap (λ (k : ℕ). g (x ∷ drop k xs)) (add-one i) ∙ ap g (sym (drop_entry xs i x e)) ∙ l.is

    pub left_done : {n : ℕ} {b : Bool} → n ≡ length xs → n ≤ i → g [] ≡ b → b ≡ g xs
    left_done m h e = let k : length xs ≤ i = omega (arith, m) in sym e ∙ ap g (sym (drop_of_length-le xs k)) ∙ l.is

  -- A loop over n entries that leaves at the first that fails the test: b is the test's answer at i.
  abbrev pub At : (A → Bool) → List A → ℕ → Bool → Type 0
  At f xs i b = (x : A) → get_elem? xs i ≡ some x → b ≡ f x

  at_i : (f : A → Bool) (xs : List A) (i n : ℕ) (b : Bool) → n ≡ length xs → i < n → At f xs i b → (x : A) × (get_elem? xs i ≡ some x) × (b ≡ f x)
  at_i f xs i n b m h t = let q = there_is xs i (omega (arith, m)) in (q.0, q.1, t q.0 q.1)

  module _ {f : A → Bool} {xs : List A} {i n : ℕ} {b : Bool} where
    pub every_stop : Left (every f) xs i → n ≡ length xs → i < n → At f xs i b → not b ≡ true → false ≡ every f xs
    every_stop l m h t e = let q = at_i f xs i n b m h t in step l q.1 (rw (sym q.2 ∙ not-true b e))

    pub every_on : Left (every f) xs i → n ≡ length xs → i < n → At f xs i b → not b ≡ false → Left (every f) xs (i + 1)
    every_on l m h t e = let q = at_i f xs i n b m h t in record { is = step l q.1 (rw (sym q.2 ∙ not-false b e)) }

    pub any_stop : Left (any f) xs i → n ≡ length xs → i < n → At f xs i b → b ≡ true → true ≡ any f xs
    any_stop l m h t e = let q = at_i f xs i n b m h t in step l q.1 (rw (sym q.2 ∙ e))

    pub any_on : Left (any f) xs i → n ≡ length xs → i < n → At f xs i b → b ≡ false → Left (any f) xs (i + 1)
    any_on l m h t e = let q = at_i f xs i n b m h t in record { is = step l q.1 (rw (sym q.2 ∙ e)) }

-- ---- a part of a list of numbers

-- every number from at to i passes, so the run passes where the rest does
pub record Passing (ok : ℕ → Bool) (s : List ℕ) (at i end : ℕ) : Type 0 where
  pub before : i ≤ end
  pub inside : end ≤ length s
  pub is : every ok (slice i end s) ≡ every ok (slice at end s)

module _ {ok : ℕ → Bool} {s : List ℕ} {at i end : ℕ} (p : Passing ok s at i end) where
  pub passing_on : i < end → ok (get_or s i 0) ≡ true → Passing ok s at (i + 1) end
  passing_on h e = record {
    before = omega arith;
    inside = p.inside;
    is = rw (slice_front i end s 0 h p.inside, e) at p.is;
  }

  pub passing_stops : i < end → ok (get_or s i 0) ≡ false → false ≡ every ok (slice at end s)
  passing_stops h e = rw (slice_front i end s 0 h p.inside, e) at p.is

  pub passing_done : end ≤ i → true ≡ every ok (slice at end s)
  passing_done h = let e : i ≡ end = omega (arith, p.before) in rw (e, slice_empty) at p.is

-- no number from at to i passes
pub record Missing (ok : ℕ → Bool) (s : List ℕ) (at i end : ℕ) : Type 0 where
  pub before : i ≤ end
  pub inside : end ≤ length s
  pub is : any ok (slice i end s) ≡ any ok (slice at end s)

module _ {ok : ℕ → Bool} {s : List ℕ} {at i end : ℕ} (p : Missing ok s at i end) where
  pub missing_on : i < end → ok (get_or s i 0) ≡ false → Missing ok s at (i + 1) end
  missing_on h e = record {
    before = omega arith;
    inside = p.inside;
    is = rw (slice_front i end s 0 h p.inside, e) at p.is;
  }

  pub missing_found : i < end → ok (get_or s i 0) ≡ true → true ≡ any ok (slice at end s)
  missing_found h e = rw (slice_front i end s 0 h p.inside, e) at p.is

  pub missing_done : end ≤ i → false ≡ any ok (slice at end s)
  missing_done h = let e : i ≡ end = omega (arith, p.before) in rw (e, slice_empty) at p.is
