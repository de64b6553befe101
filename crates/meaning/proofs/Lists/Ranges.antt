-- `all` and `any` over the places of a list: the entries decide; and parts of slices. Assumes nothing.
use Rattle.std.proofs.Common.{◌≡◌, ℕ, zero, suc, ◌+◌, ◌-◌, ◌<◌, ◌≤◌, Bool, true, false, List, [], ◌∷◌, length, take, drop, refl, sym, ◌∙◌, ap, arith}
use Rattle.std.proofs.lemmas.Iterator.{YieldsList-from_range, cases_from_all, cases_from_any}
use Rattle.std.proofs.lemmas.List.FromFn.{get_or-range_with_len, length-range_with_len}
use Rattle.std.proofs.iter.Yields.{nat_range_steps}
use Rattle.std.specs.Bool.{MatchBool}
use Rattle.std.specs.Fn.{Called}
use Rattle.std.specs.Iterator.{YieldsThen}
use Rattle.std.specs.List.{FoldsTo, AllWithin, HoldsAt, range_with_len}
use Rattle.std.specs.Option.{MatchOption}
use Rattle.std.specs.declared.option.Option.{Option}
use Rattle.std.specs.declared.ops.Range.{Range}
use denote.Param.Members.{Mut}
use Rattle.std.proofs.lemmas.List.{drop-take}
use lib.Seq.{slice}
use lib.ListN.{get_elem?, get_or}
use mathlib.Core.Bool.{and-false, or-true}
use mathlib.Core.Option.{some, none-ne-some, some-injective}
use native.Mathlib.Nat.{zero-add}
use Rattle.meaning.proofs.Lists.Places.{there_is}
use Rattle.meaning.proofs.Lists.Testing.{At}
use Rattle.meaning.specs.Tests.{any, every}

-- xs[a..b]
pub part_slice : {A : Type 0} (a b : ℕ) (xs : List A) → a ≤ b → take (b - a) (drop a xs) ≡ slice a b xs
part_slice a b xs h = let e : a + (b - a) ≡ b = omega arith in sym (drop-take a (b - a) xs) ∙ ap (λ k. drop a (take k xs)) e

module _ {A : Type 0} (f : A → Bool) where
  -- the entry at a place passes, or does not
  abbrev Says : Bool → List A → ℕ → Type 0
  Says b xs i = (x : A) → get_elem? xs i ≡ some x → f x ≡ b

  every_true : (xs : List A) → ((i : ℕ) → i < length xs → (x : A) → get_elem? xs i ≡ some x → f x ≡ true) → every f xs ≡ true
  every_true [] h = refl
  every_true (x ∷ xs) h = rw (h 0 (omega arith) x refl) (every_true xs (λ i l y e. h (suc i) (omega arith) y e))

  every_false : (xs : List A) (i : ℕ) (x : A) → get_elem? xs i ≡ some x → f x ≡ false → every f xs ≡ false
  every_false [] i x e n = absurd (none-ne-some x e)
  every_false (y ∷ ys) zero x e n = let k : f y ≡ false = ap f (some-injective y x e) ∙ n in rw k
  every_false (y ∷ ys) (suc i) x e n = rw (every_false ys i x e n) (and-false (f y))

  any_false : (xs : List A) → ((i : ℕ) → i < length xs → (x : A) → get_elem? xs i ≡ some x → f x ≡ false) → any f xs ≡ false
  any_false [] h = refl
  any_false (x ∷ xs) h = rw (h 0 (omega arith) x refl) (any_false xs (λ i l y e. h (suc i) (omega arith) y e))

  any_true : (xs : List A) (i : ℕ) (x : A) → get_elem? xs i ≡ some x → f x ≡ true → any f xs ≡ true
  any_true [] i x e n = absurd (none-ne-some x e)
  any_true (y ∷ ys) zero x e n = let k : f y ≡ true = ap f (some-injective y x e) ∙ n in rw k
  any_true (y ∷ ys) (suc i) x e n = rw (any_true ys i x e n) (or-true (f y))

  -- ---- over the numbers below n

  module _ (xs : List A) {n : ℕ} (m : n ≡ length xs) where
    abbrev numbers : List ℕ
    numbers = range_with_len 0 n

    -- the number at a place is the place
    entry : (i d : ℕ) → i < n → {x : A} → get_elem? xs i ≡ some x → get_elem? xs (get_or numbers i d) ≡ some x
    entry i d l e = ap (λ k. get_elem? xs k) (get_or-range_with_len 0 n i d l ∙ zero-add i) ∙ e

    all_range : (r : Bool) → MatchBool r (AllWithin (Says true xs) numbers 0 (length numbers)) ((k : ℕ) × (k < length numbers) × HoldsAt (Says false xs) numbers k)
        → r ≡ every f xs
    all_range true h = sym (every_true xs (λ i l x e. h i 0 (omega arith) (omega (arith, length-range_with_len 0 n, m)) x (entry i 0 (omega (arith, m)) e)))
    all_range false h =
        let l : h.0 < n = omega (arith, h.1, length-range_with_len 0 n) in
        let q = there_is xs h.0 (omega (arith, m)) in
        sym (every_false xs h.0 q.0 q.1 (h.2 0 q.0 (entry h.0 0 l q.1)))

    any_range : (r : Bool) → MatchBool r ((k : ℕ) × (k < length numbers) × HoldsAt (Says true xs) numbers k) (AllWithin (Says false xs) numbers 0 (length numbers))
        → r ≡ any f xs
    any_range false h = sym (any_false xs (λ i l x e. h i 0 (omega arith) (omega (arith, length-range_with_len 0 n, m)) x (entry i 0 (omega (arith, m)) e)))
    any_range true h =
        let l : h.0 < n = omega (arith, h.1, length-range_with_len 0 n) in
        let q = there_is xs h.0 (omega (arith, m)) in
        sym (any_true xs h.0 q.0 q.1 (h.2 0 q.0 (entry h.0 0 l q.1)))

    module _ {F : Type 0} {g : Mut F (ℕ × Unit {0}) Bool} {s : Range ℕ} (u : Range ℕ) {start : F} {r : Bool} (e : s ≡ record { start = 0; end = n })
        (closure : (i : ℕ) (b : Bool) (q : F) → Called g start (i, tt) b q → (q ≡ start) × At f xs i b) where
      pub all_entries : (zs : List ℕ) × (o : Option ℕ) × (j : F) × YieldsThen nat_range_steps s zs o u × FoldsTo (λ p x q. Called g p (x, tt) true q) start zs j
          × MatchOption o (r ≡ true) (λ x. (r ≡ false) × ((h : F) × Called g j (x, tt) false h)) → r ≡ every f xs
      all_entries ran = all_range r (cases_from_all u start r (Says true xs) (Says false xs) ran (YieldsList-from_range 0 n n e (omega arith))
          (λ i q k. let w = closure i true q k in (w.0, λ x e. sym (w.1 x e))) (λ i q k. λ x e. sym ((closure i false q k).1 x e)))

      pub any_entry : (zs : List ℕ) × (o : Option ℕ) × (j : F) × YieldsThen nat_range_steps s zs o u × FoldsTo (λ p x q. Called g p (x, tt) false q) start zs j
          × MatchOption o (r ≡ false) (λ x. (r ≡ true) × ((h : F) × Called g j (x, tt) true h)) → r ≡ any f xs
      any_entry ran = any_range r (cases_from_any u start r (Says true xs) (Says false xs) ran (YieldsList-from_range 0 n n e (omega arith))
          (λ i q k. λ x e. sym ((closure i true q k).1 x e)) (λ i q k. let w = closure i false q k in (w.0, λ x e. sym (w.1 x e))))
