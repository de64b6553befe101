-- Laws of texts that are compared at their places. Assumes nothing.
use Rattle.meaning.proofs.Cases.{case_on}
use borrow.Author.Tests.{eq-eqb}
use lib.Dec.{eqb}
use lib.ListN.{length, get_or, take}
use lib.Seq.{slice, slice_empty, length-slice, get_or-drop, get_or-take}
use mathlib.Core.Bool.{true, false, ◌&&◌}
use mathlib.Core.List.{List}
use mathlib.Core.Path.{◌≡◌, sym, ◌∙◌}
use native.Mathlib.Numerals.{add-one}
use native.Mathlib.Omega.{arith}
use Prim.Native.Nat.{ℕ, zero, suc, ◌+◌, ◌-◌, ◌≤◌, ◌<◌}
use Rattle.meaning.specs.Tests.{same_text, begins}
use Rattle.texts.specs.Places.{SameBytes}
use Rattle.pack.specs.Shown.{text_at}
use Rattle.meaning.proofs.Lists.Parts.{slice_front}
use Rattle.meaning.proofs.Lists.Texts.{begins_long, same_begins, same_byte, same_long}

byte_of : (s : List ℕ) (a n k : ℕ) → k < n → get_or (text_at s a n) k 0 ≡ get_or s (a + k) 0
byte_of s a n k h = get_or-drop a (take (a + n) s) k 0 ∙ get_or-take (a + n) s (a + k) 0 (omega arith)

-- texts by their places
module _ (s : List ℕ) (a n b m : ℕ) (p : a + n ≤ length s) (q : b + m ≤ length s) where
  long_a : length (text_at s a n) ≡ n
  long_a = omega (arith, length-slice a (a + n) s p)

  long_b : length (text_at s b m) ≡ m
  long_b = omega (arith, length-slice b (b + m) s q)

  pub too_long : m < n → false ≡ begins (text_at s a n) (text_at s b m)
  unfolding long_a long_b
  too_long h = begins_long (text_at s a n) (text_at s b m) (omega (arith, long_a, long_b))

  pub as_long : n ≡ m → begins (text_at s a n) (text_at s b m) ≡ same_text (text_at s a n) (text_at s b m)
  as_long e = same_begins (text_at s a n) (text_at s b m) (omega (arith, long_a, long_b))

  pub not_as_long : (n ≡ m → ⊥) → false ≡ same_text (text_at s a n) (text_at s b m)
  not_as_long h = same_long (text_at s a n) (text_at s b m) (λ (e : length (text_at s a n) ≡ length (text_at s b m)). h (omega (arith, e, long_a, long_b)))

  pub both_empty : n ≡ m → n ≡ 0 → true ≡ same_text (text_at s a n) (text_at s b m)
  both_empty e h =
      let x : a + n ≡ a = omega arith in
      let y : b + m ≡ b = omega arith in
      rw (x, y, slice_empty a s, slice_empty b s)

  pub differ_last : n ≡ m → (n ≡ 0 → ⊥) → (get_or s (a + (n - 1)) 0 ≡ get_or s (b + (n - 1)) 0 → ⊥) → false ≡ same_text (text_at s a n) (text_at s b m)
  differ_last e h ne = case_on (same_text (text_at s a n) (text_at s b m))
      (λ t. absurd (ne (sym (byte_of s a n (n - 1) (omega arith)) ∙ same_byte (text_at s a n) (text_at s b m) (n - 1) (sym t) ∙ byte_of s b m (n - 1) (omega arith))))
      (λ t. sym t)

-- the first i bytes agree
pub record Agreeing (s : List ℕ) (a n b m i : ℕ) : Type 0 where
  pub within : i ≤ n
  pub short : n ≤ m
  pub inside_a : a + n ≤ length s
  pub inside_b : b + m ≤ length s
  pub is : begins (slice (a + i) (a + n) s) (slice (b + i) (b + m) s) ≡ begins (text_at s a n) (text_at s b m)

pub agreeing_start : (s : List ℕ) (a n b m : ℕ) → n ≤ m → a + n ≤ length s → b + m ≤ length s → Agreeing s a n b m 0
agreeing_start s a n b m h p q =
    let e : a + 0 ≡ a = omega arith in
    let f : b + 0 ≡ b = omega arith in
    record { within = omega arith; short = h; inside_a = p; inside_b = q; is = rw (e, f) }

module _ {s : List ℕ} {a n b m i : ℕ} (p : Agreeing s a n b m i) where
  step : i < n → begins (slice (a + i) (a + n) s) (slice (b + i) (b + m) s)
      ≡ (eqb (get_or s (a + i) 0) (get_or s (b + i) 0) && begins (slice (a + (i + 1)) (a + n) s) (slice (b + (i + 1)) (b + m) s))
  step h =
      let e : a + (i + 1) ≡ a + i + 1 = omega arith in
      let f : b + (i + 1) ≡ b + i + 1 = omega arith in
      rw (e, f, slice_front (a + i) (a + n) s 0 (omega arith) p.inside_a, slice_front (b + i) (b + m) s 0 (omega (arith, p.short)) p.inside_b)

  agreeing_on : i < n → get_or s (a + i) 0 ≡ get_or s (b + i) 0 → Agreeing s a n b m (i + 1)
  agreeing_on h e = record {
    within = omega arith;
    short = p.short;
    inside_a = p.inside_a;
    inside_b = p.inside_b;
    is = rw (eq-eqb _ _ e) at (sym (step h)) ∙ p.is;
  }

-- as many bytes as are the same
pub agreeing_from : {s : List ℕ} {a n b m : ℕ} → Agreeing s a n b m 0 → (i : ℕ) → i ≤ n → SameBytes s a b i → Agreeing s a n b m i
agreeing_from p zero h e = p
agreeing_from {s} {a} {n} {b} {m} p (suc i) h e =
    rw (sym (add-one i)) (agreeing_on (agreeing_from p i (omega arith) (λ k l. e k (omega arith))) (omega arith) (e i (omega arith)))
