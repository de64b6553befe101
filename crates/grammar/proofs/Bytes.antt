-- Laws of bytes and runs. Assumes nothing.
use borrow.Author.Tests.{eqb-true}
use lib.Dec.{eqb}
use lib.ListN.{length, take, drop, get_or, replicate, drop_of_length-le}
use lib.Seq.{drop-cons, get_or-drop}
use mathlib.Core.Bool.{Bool, true, false, cond}
use mathlib.Core.List.{[], ◌∷◌, ◌++◌}
use mathlib.Core.Path.{◌≡◌, refl, ap, ◌∙◌}
use native.Mathlib.Nat.{add-zero}
use native.Mathlib.Numerals.{add-one}
use native.Mathlib.Omega.{arith}
use Prim.Native.Nat.{ℕ, zero, suc, ◌+◌, ◌≤◌, ◌<◌}
use Rattle.grammar.specs.Grammar.{All, none, also, asterisk}
use Rattle.grammar.specs.Parse.{first, no_byte, run}
use Rattle.meaning.specs.Pack.{Text}

-- A first byte is there.
pub uncons : (s : Text) (c : ℕ) → first s ≡ c → c < no_byte → s ≡ c ∷ drop 1 s
uncons [] c e h = absurd (omega arith)
uncons (x ∷ s) c e h = ap (λ (y : ℕ). y ∷ s) e

pub first_drop : (q : Text) (i : ℕ) → first (drop i q) ≡ get_or q i no_byte
first_drop q i = get_or-drop i q 0 no_byte ∙ ap (λ (j : ℕ). get_or q j no_byte) (add-zero i)

-- Within the text a byte differs from the mark of the end.
pub get_d_within : (q : Text) (i c : ℕ) → get_or q i no_byte ≡ c → c < no_byte → i < length q
get_d_within [] i c e h = absurd (omega arith)
get_d_within (x ∷ q) zero c e h = omega arith
get_d_within (x ∷ q) (suc i) c e h = let r = get_d_within q i c e h in omega arith

-- ---- runs

pub run_le : (p : ℕ → Bool) (s : Text) → run p s ≤ length s
unfolding run
run_le p [] = omega arith
run_le p (c ∷ s) = go (p c) (run_le p s)
  where
    go : (b : Bool) → run p s ≤ length s → cond b (suc (run p s)) 0 ≤ suc (length s)
    go true h = omega arith
    go false h = omega arith

run_none : (p : ℕ → Bool) (s : Text) → p (first s) ≡ false → run p s ≡ 0
unfolding run
run_none p [] h = refl
run_none p (c ∷ s) h = rw h

pub run_all : {p : ℕ → Bool} {t : Text} → All p t → (s : Text) → p (first s) ≡ false → run p (t ++ s) ≡ length t
unfolding run
run_all {p} none s h = run_none p s h
run_all (also e a) s h = rw e (ap suc (run_all a s h))

pub all_take : (p : ℕ → Bool) (s : Text) → All p (take (run p s) s)
unfolding run
all_take p [] = none
all_take p (c ∷ s) = go (p c) refl (all_take p s)
  where
    go : (b : Bool) → p c ≡ b → All p (take (run p s) s) → All p (take (cond b (suc (run p s)) 0) (c ∷ s))
    go true e a = also e a
    go false e a = none

pub run_more : (p : ℕ → Bool) (s : Text) (i : ℕ) → i < length s → p (get_or s i 0) ≡ true → run p (drop i s) ≡ suc (run p (drop (i + 1) s))
unfolding run
run_more p s i h e = rw (drop-cons s i 0 h, e, add-one)

pub run_stop : (p : ℕ → Bool) (s : Text) (i : ℕ) → i < length s → p (get_or s i 0) ≡ false → run p (drop i s) ≡ 0
unfolding run
run_stop p s i h e = rw (drop-cons s i 0 h, e)

pub run_past : (p : ℕ → Bool) (s : Text) (i : ℕ) → length s ≤ i → run p (drop i s) ≡ 0
unfolding run
run_past p s i h = rw (drop_of_length-le s h)

-- ---- stars

-- A run of stars is copies of the star.
pub stars_take : (s : Text) → take (run (eqb asterisk) s) s ≡ replicate (run (eqb asterisk) s) asterisk
unfolding run
stars_take [] = refl
stars_take (c ∷ s) = go (eqb asterisk c) refl (stars_take s)
  where
    go : (b : Bool) → eqb asterisk c ≡ b → take (run (eqb asterisk) s) s ≡ replicate (run (eqb asterisk) s) asterisk
        → take (cond b (suc (run (eqb asterisk) s)) 0) (c ∷ s) ≡ replicate (cond b (suc (run (eqb asterisk) s)) 0) asterisk
    go true e a = let q = eqb-true asterisk c e in cc
    go false e a = refl

pub all_stars : (k : ℕ) → All (eqb asterisk) (replicate k asterisk)
all_stars zero = none
all_stars (suc k) = also refl (all_stars k)
