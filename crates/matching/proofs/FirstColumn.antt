-- Laws of the first columns of an atom's variables. Assumes nothing.
use borrow.Author.Tests.{eq-eqb, ne_eqb}
use lib.ListN.{length, get_or, set, length-set}
use lib.Seq.{get_or-set_same, get_or-set_other}
use mathlib.Core.List.{List, [], ◌∷◌}
use mathlib.Core.Path.{◌≡◌, refl, sym, ◌∙◌}
use native.Mathlib.Decide.{ℕ_discrete}
use native.Mathlib.Numerals.{add-one}
use native.Mathlib.Omega.{arith}
use Prim.Native.Nat.{ℕ, ◌+◌, ◌≤◌, ◌<◌, zero-le, suc-le-suc}
use Rattle.std.proofs.lemmas.Iterator.{index_from_first}
use Rattle.std.specs.List.{AllWithin, HoldsAt}
use Rattle.std.specs.Option.{unwrap_or}
use Rattle.std.specs.Prelude.{Option, MatchOption}
use Rattle.meaning.specs.Member.{◌∈◌, here, there}
use Rattle.matching.specs.Plan.{column_of, FirstColumns}
use Rattle.meaning.specs.Limits.{key_width}

abbrev Has : List ℕ → ℕ → Type 0
Has own v = (column_of own v < length own) × (get_or own (column_of own v) 0 ≡ v)

has : (own : List ℕ) (v : ℕ) → v ∈ own → Has own v
unfolding column_of
has [] v m = elim m [ ]
has (w ∷ own) v m = go m (λ n. has own v n) (ℕ_discrete w v)
  where
    go : v ∈ (w ∷ own) → (v ∈ own → Has own v) → Dec (w ≡ v) → Has (w ∷ own) v
    go m f (yes e) = rw (eq-eqb w v e) (suc-le-suc zero-le, e)
    go (here e) f (no n) = absurd (n (sym e))
    go (there m) f (no n) = let r = f m in rw (ne_eqb w v n) (suc-le-suc r.0, r.1)

-- a variable of the atom is in its first column
pub column_has : {own : List ℕ} {v : ℕ} → v ∈ own → (column_of own v < length own) × (get_or own (column_of own v) 0 ≡ v)
column_has m = has _ _ m

-- what a search for a variable gives
pub column_found : (v : ℕ) (own : List ℕ) (r : Option ℕ)
    → MatchOption r (AllWithin (λ w. w ≡ v → ⊥) own 0 (length own)) (λ i. (i < length own) × HoldsAt (λ w. w ≡ v) own i × AllWithin (λ w. w ≡ v → ⊥) own 0 i)
    → column_of own v ≡ unwrap_or r (length own)
unfolding column_of
column_found v own r = index_from_first (λ l. column_of l v) (λ w. w ≡ v) (λ w. w ≡ v → ⊥) none hit miss own r
  where
    none : column_of [] v ≡ 0
    none = refl

    hit : (x : ℕ) (xs : List ℕ) → x ≡ v → column_of (x ∷ xs) v ≡ 0
    hit x xs e = rw (eq-eqb x v e) refl

    miss : (x : ℕ) (xs : List ℕ) → (x ≡ v → ⊥) → column_of (x ∷ xs) v ≡ column_of xs v + 1
    miss x xs n = rw (ne_eqb x v n) (sym (add-one _))

-- ---- each of the variables

-- the first i have their columns
pub record Seated (own vars : List ℕ) (i : ℕ) (cols : List ℕ) : Type 0 where
  pub long : length cols ≡ key_width
  pub are : (k : ℕ) → k < i → get_or cols k 0 ≡ column_of own (get_or vars k 0)

pub seat_start : (own vars cols : List ℕ) → length cols ≡ key_width → Seated own vars 0 cols
seat_start own vars cols l = record { long = l; are = λ k h. absurd (omega (arith, h)) }

module _ {own vars : List ℕ} {i : ℕ} {cols : List ℕ} (s : Seated own vars i cols) where
  pub seat_again : i < length vars → length vars ≤ key_width → (c : ℕ) → c ≡ column_of own (get_or vars i 0) → Seated own vars (i + 1) (set cols i c)
  seat_again h l c e = record { long = length-set cols i c ∙ s.long; are = λ k b. go k b (ℕ_discrete k i) }
    where
      go : (k : ℕ) → k < i + 1 → Dec (k ≡ i) → get_or (set cols i c) k 0 ≡ column_of own (get_or vars k 0)
      go k b (yes q) = rw (q, get_or-set_same cols i c 0 (omega (arith, s.long))) e
      go k b (no n) = get_or-set_other cols i k c 0 n ∙ s.are k (omega (arith, b, n))

  pub seat_done : length vars ≤ i → FirstColumns own vars cols
  seat_done h = record { are = λ k b. s.are k (omega (arith, b, h)) }
