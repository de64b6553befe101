-- The list of a set of numbers, made from below, piece by piece. Assumes nothing.
use lib.ListN.{length}
use mathlib.Core.List.Memᴰ
use mathlib.Core.List.{List, [], ◌++◌}
use mathlib.Core.Logic.{⊎_elim}
use native.Mathlib.Decide.{dec_lt}
use native.Mathlib.Omega.{arith}
use Prim.Native.Nat.{ℕ, ◌≤◌, ◌<◌}
use Rattle.meaning.proofs.Lists.Counting.{listed_over}
use Rattle.meaning.proofs.Lists.Ordered.{<_strict}
use Rattle.meaning.proofs.Lists.SetLists.{joined_order}
use Rattle.meaning.specs.Member.{◌∈◌}
use Rattle.meaning.specs.Ordered.{InOrder, ListOf, Over, empty}

module _ (Q : ℕ → Type 0) where
  abbrev pub Below : ℕ → ℕ → Type 0
  Below b x = Q x × (x < b)

  -- Nothing is below 0, and the rest is added from b up to c.
  pub list_none : ListOf ◌<◌ (Below 0) []
  list_none = record { ascending = empty; members = λ x. ((λ m. elim m [ ]), (λ (q, l). absurd (omega arith))) }

  pub list_append : {b c : ℕ} {xs ys : List ℕ} → b ≤ c → ListOf ◌<◌ (Below b) xs → InOrder ◌<◌ ys → ((x : ℕ) → x ∈ ys → Q x × (b ≤ x) × (x < c))
      → ((x : ℕ) → Q x → b ≤ x → x < c → x ∈ ys) → ListOf ◌<◌ (Below c) (xs ++ ys)
  list_append {b} {c} {xs} {ys} h l up sound complete = record {
    ascending = joined_order xs ys l.ascending up (λ x y m n. let p = ((l.members x).0 m).1 in let q = (sound y n).1 in omega arith);
    members = λ x. (
      (λ m. ⊎_elim (λ n. let p = (l.members x).0 n in let g = p.1 in (p.0, omega arith)) (λ n. let p = sound x n in (p.0, p.2)) (Memᴰ.append_cases xs m)),
      (λ (q, g). back x q g (dec_lt x b)),
    );
  }
    where
      back : (x : ℕ) → Q x → x < c → Dec (x < b) → x ∈ (xs ++ ys)
      back x q g (yes n) = Memᴰ.append_left ys ((l.members x).1 (q, n))
      back x q g (no n) = Memᴰ.append_right xs (complete x q (omega arith) g)

  pub list_skip : {b c : ℕ} {xs : List ℕ} → b ≤ c → ListOf ◌<◌ (Below b) xs → ((x : ℕ) → Q x → b ≤ x → x < c → ⊥) → ListOf ◌<◌ (Below c) xs
  list_skip {b} {c} {xs} h l none = record {
    ascending = l.ascending;
    members = λ x. ((λ m. let p = (l.members x).0 m in let g = p.1 in (p.0, omega arith)), (λ (q, g). back x q g (dec_lt x b)));
  }
    where
      back : (x : ℕ) → Q x → x < c → Dec (x < b) → x ∈ xs
      back x q g (yes n) = (l.members x).1 (q, n)
      back x q g (no n) = absurd (none x q (omega arith) g)

  pub list_over : {c : ℕ} {k : ℕ} {xs : List ℕ} → ListOf ◌<◌ (Below c) xs → k < length xs → Over k Q
  list_over l h = listed_over <_strict l.ascending (λ x m. ((l.members x).0 m).0) h
