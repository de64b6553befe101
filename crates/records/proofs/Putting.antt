-- Numbers put one after another into a list, from a place on. Assumes nothing.
use lib.ListN.{get_or, length, length-set, set}
use lib.Seq.{paste, paste-suc}
use mathlib.Core.List.{List, ◌++◌}
use mathlib.Core.Path.{◌≡◌, refl, ap, subst, ◌∙◌}
use native.Mathlib.Numerals.{add-one}
use native.Mathlib.Omega.{arith}
use Prim.Native.Nat.{ℕ, ◌+◌, ◌≤◌, ◌<◌}
use Rattle.records.specs.Kept.{Put}
use Rattle.meaning.proofs.Lists.Overwriting.{parts_written, written_long}

-- ---- the loop: the first i numbers are put

pub record Putting (numbers : List ℕ) (at i : ℕ) (out₀ out : List ℕ) : Type 0 where
  pub within : i ≤ length numbers
  pub long : length out ≡ length out₀
  pub is : out ≡ paste out₀ at numbers i

module _ {numbers : List ℕ} {at i : ℕ} {out₀ out : List ℕ} (p : Putting numbers at i out₀ out) where
  pub putting_on : at + length numbers ≤ length out₀ → i < length numbers → Putting numbers at (i + 1) out₀ (set out (at + i) (get_or numbers i 0))
  putting_on h k = record {
    within = omega arith;
    long = length-set out (at + i) (get_or numbers i 0) ∙ p.long;
    is = rw (p.is, add-one) (paste-suc out₀ at numbers i 0 (omega arith) k);
  }

-- ---- what was put

pub put_as : {xs ys : List ℕ} {at : ℕ} {out out' : List ℕ} → xs ≡ ys → Put xs at out out' → Put ys at out out'
put_as {at = at} {out = out} {out' = out'} e p = subst (λ (zs : List ℕ). Put zs at out out') e p

module _ {numbers : List ℕ} {at : ℕ} {out out' : List ℕ} (p : Put numbers at out out') (h : at + length numbers ≤ length out) where
  pub put_long : length out' ≡ length out
  put_long = ap length p.is ∙ written_long at (length numbers) numbers out refl h

  -- more numbers behind them
  pub put_next : {more : List ℕ} {q : ℕ} {out'' : List ℕ} → Put more q out' out'' → q ≡ at + length numbers → Put (numbers ++ more) at out out''
  put_next {more} t e = record { is = t.is ∙ rw (e, p.is) (parts_written at (length numbers) numbers out refl h more) }
