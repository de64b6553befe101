-- A list whose entries are made one after another, from its front: Q holds of each by its number. Assumes nothing.
use lib.ListN.{get_or, length, length-set, set}
use lib.Seq.{get_or-set_other, get_or-set_same}
use mathlib.Core.List.{List}
use mathlib.Core.Path.{◌≡◌, sym, ◌∙◌, subst}
use native.Mathlib.Decide.{ℕ_discrete}
use native.Mathlib.Omega.{arith}
use Prim.Native.Nat.{ℕ, ◌+◌, ◌<◌}

-- the first n are made
pub record Made {A : Type 0} (Q : ℕ → A → Type 0) (d : A) (long n : ℕ) (table : List A) : Type 0 where
  pub many : length table ≡ long
  pub each : (i : ℕ) → i < n → Q i (get_or table i d)

module _ {A : Type 0} {Q : ℕ → A → Type 0} {d : A} {long : ℕ} where
  pub made_start : (table : List A) → length table ≡ long → Made Q d long 0 table
  made_start table e = record { many = e; each = λ i h. absurd (omega (arith, h)) }

  pub made_on : {n : ℕ} {table : List A} {v : A} → Made Q d long n table → n < long → Q n v → Made Q d long (n + 1) (set table n v)
  made_on {n} {table} {v} p h q = record { many = length-set table n v ∙ p.many; each = λ i l. go i l (ℕ_discrete i n) }
    where
      go : (i : ℕ) → i < n + 1 → Dec (i ≡ n) → Q i (get_or (set table n v) i d)
      go i l (yes e) = subst (λ j. Q j (get_or (set table n v) j d)) (sym e) (subst (Q n) (sym (get_or-set_same table n v d (omega (arith, h, p.many)))) q)
      go i l (no e) = subst (Q i) (sym (get_or-set_other table n i v d e)) (p.each i (omega (arith, l, e)))
