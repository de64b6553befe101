-- Laws of the contents. Assumes nothing.
use Rattle.meaning.proofs.Cases.{and_both}
use borrow.Author.Tests.{leb-true, eqb-true, not-false}
use lib.Dec.{leb, eqb}
use lib.ListN.{length}
use lib.Seq.{slice}
use mathlib.Core.Bool.{false}
use mathlib.Core.List.{List}
use mathlib.Core.Path.{◌≡◌, refl, sym}
use native.Mathlib.Nat.{add-zero, le_refl}
use native.Mathlib.Numerals.{add-one}
use native.Mathlib.Omega.{arith}
use Prim.Native.Nat.{ℕ, zero, suc, ◌+◌, ◌*◌, ◌-◌, ◌≤◌, ◌<◌}
use Rattle.meaning.specs.Limits.{bodies, contents_bytes, max_pack_bytes}
use Rattle.meaning.specs.Tests.{within}
use Rattle.pack.specs.Contents.{word, length_of, start_of, body_of, bad_size}
use Rattle.pack.specs.Shown.{BodyAt}
use Rattle.pack.specs.declared.cursor.Cursor.{Cursor}
use Rattle.meaning.proofs.Lists.Parts.{slice_by}

-- the lengths before i are added
pub record Summed (s : List ℕ) (i at : ℕ) : Type 0 where
  pub is : at ≡ start_of s i
  pub small : at ≤ contents_bytes + i * 4294967296

pub summed_start : (s : List ℕ) → Summed s 0 contents_bytes
unfolding start_of
summed_start s = record { is = refl; small = omega arith }

pub summed_on : {s : List ℕ} {i at w : ℕ} → Summed s i at → w ≡ word s (4 * i) → w < 4294967296 → Summed s (i + 1) (at + w)
unfolding start_of length_of
summed_on {s} {i} {at} {w} p e h = record {
  is = let k : start_of s (suc i) ≡ start_of s i + word s (4 * i) = refl in rw add-one (omega (arith, k, p.is, e));
  small = omega (arith, p.small);
}

-- what the size says
pub record Sized (s : List ℕ) : Type 0 where
  pub long : contents_bytes ≤ length s
  pub short : length s ≤ max_pack_bytes
  pub whole : start_of s bodies ≡ length s

pub size_is : (s : List ℕ) → bad_size s ≡ false → Sized s
unfolding bad_size
size_is s e =
    let a = and_both (within contents_bytes max_pack_bytes (length s)) (eqb (start_of s bodies) (length s)) (not-false _ e) in
    let b = and_both (leb contents_bytes (length s)) (leb (length s) max_pack_bytes) a.0 in
    record { long = leb-true _ _ b.0; short = leb-true _ _ b.1; whole = eqb-true _ _ a.1 }

pub start_up : (s : List ℕ) (k n : ℕ) → start_of s k ≤ start_of s (k + n)
unfolding start_of
start_up s k zero = rw add-zero (le_refl _)
start_up s k (suc n) = let e : k + suc n ≡ suc (k + n) = omega arith in rw e (omega (arith, start_up s k n))

pub start_within : (s : List ℕ) → Sized s → (k : ℕ) → k ≤ bodies → start_of s k ≤ length s
start_within s z k h = let e : k + (bodies - k) ≡ bodies = omega arith in omega (arith, z.whole, rw e at (start_up s k (bodies - k)))

next_start : (s : List ℕ) (k : ℕ) → start_of s (k + 1) ≡ start_of s k + length_of s k
unfolding start_of
next_start s k = rw add-one

body_is : (s : List ℕ) (k : ℕ) → slice (start_of s k) (start_of s (k + 1)) s ≡ body_of s k
unfolding body_of
body_is s k = rw (next_start s k) (sym (slice_by (start_of s k) (length_of s k) s))

-- the cursor from one start to the next is the body's
pub body_from : (s : List ℕ) (k : ℕ) {c : Cursor} → c.bytes.now ≡ s → c.at ≡ start_of s k → c.end ≡ start_of s (k + 1) → BodyAt s k c
body_from s k b p q = record { bytes = b; start = p; is = rw (b, p, q) (body_is s k) }
