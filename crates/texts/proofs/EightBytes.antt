-- Laws of bytes that are compared eight at a time. Assumes nothing.
use borrow.Author.Tests.{ltb-true, ltb-false}
use lib.Dec.{ltb}
use lib.ListN.{get_or}
use mathlib.Core.List.{List}
use mathlib.Core.Path.{◌≡◌}
use native.Mathlib.Nat.{add-zero}
use native.Mathlib.Omega.{arith}
use Prim.Native.Nat.{ℕ, zero, suc, ◌+◌, ◌-◌, ◌*◌, ◌<◌, ◌≤◌}
use Rattle.pack.specs.Contents.{word}
use Rattle.texts.specs.Places.{SameBytes}
use Rattle.meaning.proofs.Cases.{case_on}

-- the bytes that follow are the same too
same_join : (s : List ℕ) (a b i j : ℕ) → SameBytes s a b i → SameBytes s (a + i) (b + i) j → SameBytes s a b (i + j)
same_join s a b i j p q k h = case_on (ltb k i) (λ t. p k (ltb-true k i t)) (λ t. later (ltb-false k i t))
  where
    later : i ≤ k → get_or s (a + k) 0 ≡ get_or s (b + k) 0
    later l =
        let e : a + k ≡ a + i + (k - i) = omega arith in
        let f : b + k ≡ b + i + (k - i) = omega arith in
        rw (e, f) (q (k - i) (omega arith))

-- digits in base 256
digit : (x y p q : ℕ) → x < 256 → y < 256 → x + 256 * p ≡ y + 256 * q → (x ≡ y) × (p ≡ q)
digit x y p q h g e = (omega arith, omega arith)

module _ (s : List ℕ) (small : (k : ℕ) → get_or s k 0 < 256) where
  word_small : (i : ℕ) → word s i < 4294967296
  unfolding word
  word_small i = omega (arith, small i, small (i + 1), small (i + 2), small (i + 3))

  word_same : (a b : ℕ) → word s a ≡ word s b → SameBytes s a b 4
  unfolding word
  word_same a b e k h =
      let p = digit (get_or s a 0) (get_or s b 0) _ _ (small a) (small b) e in
      let q = digit (get_or s (a + 1) 0) (get_or s (b + 1) 0) _ _ (small (a + 1)) (small (b + 1)) p.1 in
      let r = digit (get_or s (a + 2) 0) (get_or s (b + 2) 0) (get_or s (a + 3) 0) (get_or s (b + 3) 0) (small (a + 2)) (small (b + 2)) q.1 in
      go p.0 q.0 r.0 r.1 k h
    where
      go : get_or s a 0 ≡ get_or s b 0 → get_or s (a + 1) 0 ≡ get_or s (b + 1) 0 → get_or s (a + 2) 0 ≡ get_or s (b + 2) 0 → get_or s (a + 3) 0 ≡ get_or s (b + 3) 0 → SameBytes s a b 4
      go p q r t zero h = rw (add-zero a, add-zero b) p
      go p q r t (suc zero) h = q
      go p q r t (suc (suc zero)) h = r
      go p q r t (suc (suc (suc zero))) h = t
      go p q r t (suc (suc (suc (suc k)))) h = absurd (let z : ⊥ = omega arith in z)

  pub eight_same : (a b i : ℕ) → SameBytes s a b i → word s (a + i) + 4294967296 * word s (a + i + 4) ≡ word s (b + i) + 4294967296 * word s (b + i + 4)
      → SameBytes s a b (i + 8)
  eight_same a b i p e =
      let l : word s (a + i) ≡ word s (b + i) = omega (arith, word_small (a + i), word_small (b + i)) in
      let h : word s (a + i + 4) ≡ word s (b + i + 4) = omega (arith, word_small (a + i), word_small (b + i)) in
      same_join s a b i 8 p (same_join s (a + i) (b + i) 4 4 (word_same (a + i) (b + i) l) (word_same (a + i + 4) (b + i + 4) h))
