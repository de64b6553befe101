-- Laws of records that are compared with those before them. Assumes nothing.
use lib.ListN.{drop, get_or, get_elem?, length, take}
use lib.Seq.{length-take-le, take_all}
use mathlib.Core.Bool.{Bool, false, true}
use mathlib.Core.List.{List, [], ◌∷◌}
use mathlib.Core.Option.{some, none-ne-some}
use mathlib.Core.Path.{◌≡◌, ap, subst, sym, ◌∙◌}
use native.Mathlib.Nat.{zero-add}
use native.Mathlib.Omega.{arith}
use Prim.Native.Nat.{ℕ, suc, zero, ◌*◌, ◌+◌, ◌<◌, ◌≤◌}
use Rattle.meaning.proofs.Lists.Places.{split_entry, take_entry, there_is}
use Rattle.meaning.specs.Tests.{any_two}
use Rattle.meaning.proofs.Lists.Pairs.{two_at, two_none}
use Rattle.std.proofs.lemmas.List.FromFn.{get_or-range_with_len, length-range_with_len}
use Rattle.std.specs.Prelude.{HoldsAt, MatchBool}
use Rattle.std.specs.List.{AllWithin, range_with_len}
use Rattle.texts.specs.Compared.{clashes, first_of, Keyed, Records, SaysAny, SaysBefore, SaysTwo, SomeRecords, SomeShows, width_of}
use Rattle.texts.specs.declared.Key.{Key}
use Rattle.texts.proofs.Keys.{place_inside, record_shows, some_shows}

-- an entry before place j
taken : {A : Type 0} (xs : List A) (j i : ℕ) (x : A) → get_elem? (take j xs) i ≡ some x → (i < j) × (get_elem? xs i ≡ some x)
taken xs zero i x e = absurd (none-ne-some x e)
taken [] (suc j) i x e = absurd (none-ne-some x e)
taken (y ∷ xs) (suc j) zero x e = (omega arith, e)
taken (y ∷ xs) (suc j) (suc i) x e = let r = taken xs j i x e in (omega (arith, r.0), r.1)

-- ---- record j and those before it

module _ {key : Key} {s numbers : List ℕ} {at n j width o : ℕ} (g : SomeRecords key s numbers at n × (j < n))
    (w : width ≡ width_of key) (f : o ≡ first_of key) where
  from : at + o ≡ at + first_of key
  from = ap (λ z. at + z) f

  pub last_inside : at + o + j * width + 1 < length numbers
  last_inside = place_inside w from g.0 j g.1

  pub one_inside : {i : ℕ} → i < j → at + o + i * width + 1 < length numbers
  one_inside {i} h = place_inside w from g.0 i (omega (arith, h, g.1))

  pub one_shows : {i : ℕ} → i < j → SomeShows key s (get_or numbers (at + o + i * width) 0) (get_or numbers (at + o + i * width + 1) 0)
  one_shows {i} h = some_shows w from g.0 i (omega (arith, h, g.1))

  pub last_shows : SomeShows key s (get_or numbers (at + o + j * width) 0) (get_or numbers (at + o + j * width + 1) 0)
  last_shows = some_shows w from g.0 j g.1

  pub before_long : {records : List (Keyed key)} → Records key s records numbers at n → j ≡ length (take j records)
  before_long {records} r = sym (length-take-le j records (omega (arith, r.many, g.1)))

  -- what is said of record i is said of that entry
  pub one_says : {records : List (Keyed key)} {y : Keyed key} → Records key s records numbers at n → get_elem? records j ≡ some y → {i : ℕ} {b : Bool}
      → (i < j → SaysTwo key s (get_or numbers (at + o + i * width) 0) (get_or numbers (at + o + i * width + 1) 0)
      (get_or numbers (at + o + j * width) 0) (get_or numbers (at + o + j * width + 1) 0) b)
      → (x : Keyed key) → get_elem? (take j records) i ≡ some x → b ≡ clashes key x y
  one_says {records} {y} r e {i} says x q =
      let t = taken records j i x q in
      says t.0 x y (record_shows w from r i x t.1) (record_shows w from r j y e)

-- ---- the records: no two of the first j clash

module _ {key : Key} {s numbers : List ℕ} {at n : ℕ} {records : List (Keyed key)} (g : Records key s records numbers at n) where
  none_before : (j : ℕ) → j ≤ n → ((k : ℕ) → k < j → SaysBefore key s numbers at n k false) → any_two (clashes key) (take j records) ≡ false
  none_before zero h says = λ i. false
  none_before (suc j) h says =
      let y = there_is records j (omega (arith, g.many)) in
      rw (take_entry records j y.0 y.1)
      (two_none (clashes key) (take j records) y.0 (none_before j (omega arith) (λ k l. says k (omega arith))) (sym (says j (omega arith) records y.0 g y.1)))

  one_before : (j : ℕ) → j < n → SaysBefore key s numbers at n j true → true ≡ any_two (clashes key) records
  one_before j h says =
      let y = there_is records j (omega (arith, g.many)) in
      sym (two_at (clashes key) (take j records) y.0 (drop (suc j) records) (sym (says records y.0 g y.1)))
      ∙ ap (any_two (clashes key)) (sym (split_entry records j y.0 y.1))

-- `any` over the places of the records
module _ (key : Key) (s numbers : List ℕ) (at n : ℕ) where
  abbrev pub Some : ℕ → Type 0
  Some j = j < n → SaysBefore key s numbers at n j true

  abbrev pub None : ℕ → Type 0
  None j = j < n → SaysBefore key s numbers at n j false

  entry : (i d : ℕ) → i < n → get_or (range_with_len 0 n) i d ≡ i
  entry i d h = get_or-range_with_len 0 n i d h ∙ zero-add i

  pub any_says : (r : Bool) → MatchBool r ((k : ℕ) × (k < length (range_with_len 0 n)) × HoldsAt Some (range_with_len 0 n) k)
      (AllWithin None (range_with_len 0 n) 0 (length (range_with_len 0 n))) → SaysAny key s numbers at n r
  any_says true h records g =
      let l : h.0 < n = omega (arith, h.1, length-range_with_len 0 n) in
      one_before g h.0 l (subst Some (entry h.0 0 l) (h.2 0) l)
  any_says false h records g =
      sym (none_before g n (omega arith) (λ k l. subst None (entry k 0 l) (h k 0 (omega arith) (omega (arith, l, length-range_with_len 0 n))) l))
      ∙ ap (any_two (clashes key)) (take_all n records (omega (arith, g.many)))
