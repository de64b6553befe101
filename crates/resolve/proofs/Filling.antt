-- The loop over the parts: the label of a part as the code cuts it from the query, and the parts written so far. Assumes
-- nothing.
use borrow.Author.Tests.{ltb-true, ltb-false}
use lib.Dec.{ltb}
use lib.ListN.{length, take, drop, get_or, set, length-set, length-drop, drop_of_length-le}
use lib.Seq.{take_all, get_or-set_same, get_or-set_other}
use mathlib.Core.List.{List}
use mathlib.Core.Path.{◌≡◌, refl, sym, ap, subst, ◌∙◌}
use native.Mathlib.Decide.{ℕ_discrete}
use native.Mathlib.Omega.{arith}
use Prim.Native.Nat.{ℕ, min, ◌+◌, ◌-◌, ◌≤◌, ◌<◌}
use Rattle.meaning.specs.Pack.{Text}
use Rattle.query.specs.Tree.{kind_of}
use Rattle.meaning.proofs.Cases.{case_on}
use Rattle.resolve.specs.Wanted.{Wants, OfGraph, WantedWritten}
use Rattle.walk.specs.Parts.{part_text}

-- ---- the label

-- the min of two numbers is one of them
min_case : {Q : Type 0} (a b : ℕ) → (a < b → min a b ≡ a → Q) → (b ≤ a → min a b ≡ b → Q) → Q
min_case a b f g = case_on (ltb a b) (λ e. let h = ltb-true a b e in f h (omega arith)) (λ e. let h = ltb-false a b e in g h (omega arith))

-- k bytes from a on, or as many as there are
cut_inside : (q : Text) (a k : ℕ) → take (min (a + k) (length q) - a) (drop a q) ≡ take k (drop a q)
cut_inside q a k = min_case (a + k) (length q)
    (λ h e. ap (λ n. take n (drop a q)) (let z : min (a + k) (length q) - a ≡ k = omega (arith, e) in z))
    (λ h e. take_all (min (a + k) (length q) - a) (drop a q) (omega (arith, e, length-drop a q)) ∙ sym (take_all k (drop a q) (omega (arith, length-drop a q))))

cut_from : (q : Text) (a k : ℕ) → let start = min a (length q) in take (min (start + k) (length q) - start) (drop start q) ≡ take k (drop a q)
cut_from q a k = min_case a (length q)
    (λ h e. subst (λ n. take (min (n + k) (length q) - n) (drop n q) ≡ take k (drop a q)) (sym e) (cut_inside q a k))
    (λ h e. cut_inside q (min a (length q)) k
    ∙ ap (take k) (drop_of_length-le q {i = min a (length q)} (omega (arith, e)) ∙ sym (drop_of_length-le q h)))

-- where the code cuts
pub record Cut (q : Text) (a k start end : ℕ) : Type 0 where
  pub start_is : start ≡ min a (length q)
  pub end_is : end ≡ min (start + k) (length q)

module _ {q : Text} {a k start end : ℕ} (c : Cut q a k start end) where
  pub cut_order : start ≤ end
  cut_order = omega (arith, c.end_is, c.start_is)

  pub cut_end : end ≤ length q
  cut_end = omega (arith, c.end_is)

  pub cut_label : take (end - start) (drop start q) ≡ take k (drop a q)
  cut_label = (λ i. take ((c.end_is ∙ ap (λ n. min (n + k) (length q)) c.start_is) i - c.start_is i) (drop (c.start_is i) q)) ∙ cut_from q a k

-- ---- the parts written so far

pub record Filled (pack q : Text) (t nodes : List ℕ) (count : ℕ) (wanted wanted' : List ℕ) (i : ℕ) : Type 0 where
  pub long : length wanted' ≡ length wanted
  pub parts : (j : ℕ) → j < i → OfGraph pack nodes count (λ P in_order. Wants P in_order (kind_of t j) (part_text q t j) (get_or wanted' j 0))
  pub kept : (j : ℕ) → i ≤ j → get_or wanted' j 0 ≡ get_or wanted j 0

module _ {pack q : Text} {t nodes : List ℕ} {count : ℕ} {wanted : List ℕ} where
  pub filled_start : Filled pack q t nodes count wanted wanted 0
  filled_start = record { long = refl; parts = λ j h. absurd (let z : ⊥ = omega arith in z); kept = λ j h. refl }

  pub filled_on : {wanted' : List ℕ} {i : ℕ} → Filled pack q t nodes count wanted wanted' i → i < length wanted → (text : Text) (w : ℕ)
      → text ≡ part_text q t i → {kind : ℕ} → kind ≡ kind_of t i
      → OfGraph pack nodes count (λ P in_order. Wants P in_order kind text w) → Filled pack q t nodes count wanted (set wanted' i w) (i + 1)
  filled_on {wanted'} {i} f h text w e {kind} is g = record {
    long = length-set wanted' i w ∙ f.long;
    parts = more;
    kept = λ j l. get_or-set_other wanted' i j w 0 (λ z. let k : ⊥ = omega (arith, z) in k) ∙ f.kept j (omega arith);
  }
    where
      more : (j : ℕ) → j < i + 1 → OfGraph pack nodes count (λ P in_order. Wants P in_order (kind_of t j) (part_text q t j) (get_or (set wanted' i w) j 0))
      more j l = go (ℕ_discrete j i)
        where
          go : Dec (j ≡ i) → OfGraph pack nodes count (λ P in_order. Wants P in_order (kind_of t j) (part_text q t j) (get_or (set wanted' i w) j 0))
          go (yes p) P a in_order listed =
              subst (λ k. Wants P in_order (kind_of t k) (part_text q t k) (get_or (set wanted' i w) k 0)) (sym p)
              (subst (Wants P in_order (kind_of t i) (part_text q t i)) (sym (get_or-set_same wanted' i w 0 (omega (arith, f.long))))
              (subst (λ s. Wants P in_order (kind_of t i) s w) e (subst (λ k. Wants P in_order k text w) is (g P a in_order listed))))
          go (no n) P a in_order listed =
              subst (Wants P in_order (kind_of t j) (part_text q t j)) (sym (get_or-set_other wanted' i j w 0 n)) (f.parts j (omega arith) P a in_order listed)

  pub filled_done : {wanted' : List ℕ} {i n : ℕ} → i ≡ n → Filled pack q t nodes count wanted wanted' i → WantedWritten pack q t nodes n count wanted wanted'
  filled_done {n} e f = record {
    found = λ P a in_order listed. record { parts = λ j h. f.parts j (omega arith) P a in_order listed };
    kept = λ j h. f.kept j (omega arith);
  }
