-- The parts of a tree that holds an expression: what each is, and that each but the root is a part of one other.
-- Assumes nothing.
use borrow.Author.Tests.{ne_eqb}
use lib.ListN.{length, take, drop, get_or}
use mathlib.Core.List.{List}
use mathlib.Core.Logic.{◌⊎◌, inl, inr}
use mathlib.Core.Path.{◌≡◌, refl, sym, subst, ◌∙◌}
use native.Mathlib.Omega.{arith}
use Prim.Native.Nat.{ℕ, ◌+◌, ◌-◌, ◌≤◌, ◌<◌}
use Rattle.meaning.specs.Limits.{max_parts, part_room}
use Rattle.meaning.specs.Pack.{Text}
use Rattle.meaning.specs.Query.{Expr}
use Rattle.query.proofs.TreeLaws.{first_is, holds_lt, kind_is, second_is}
use Rattle.query.specs.Tree.{h_any, h_iri, h_literal, h_nested, h_sequence, h_star, h_stay, h_step, h_union, Holds}
use Rattle.query.specs.Tree.{part as number}
use Rattle.walk.specs.Parts.{leaf, test, repeat, chain, either, Child, Ordered, part_by, part_of, leaf_by, leaf_of}
use Rattle.meaning.proofs.Cases.{case_lt}

-- ---- the numbers of a part

module _ (t : List ℕ) (i k a b : ℕ) (e : get_or t i 0 ≡ number k a b) (la : a < part_room) (lb : b < part_room) where
  part_is : part_of t i ≡ part_by k a (i - 1)
  unfolding part_of
  part_is = rw (kind_is t i k a b e la lb, first_is t i k a b e la lb)

  pub leaf_is : (q : Text) → leaf_of q t i ≡ leaf_by k (take b (drop a q))
  unfolding leaf_of
  leaf_is q = rw (kind_is t i k a b e la lb, first_is t i k a b e la lb, second_is t i k a b e la lb)

-- ---- the parts of a part

-- What is known of the parts from n up to m.
pub record Nest (t : List ℕ) (n m : ℕ) : Type 0 where
  pub within : (i c : ℕ) → n ≤ i → i < m → Child (part_of t i) c → (n ≤ c) × (c < i)
  pub apart : (i j c : ℕ) → n ≤ i → i < j → j < m → Child (part_of t i) c → Child (part_of t j) c → ⊥
  pub ordered : (i : ℕ) → n ≤ i → i < m → Ordered (part_of t i)
  pub owned : (c : ℕ) → n ≤ c → c < m - 1 → (i : ℕ) × (c < i) × (i < m) × Child (part_of t i) c

-- A part with no parts.
nest_leaf : (t : List ℕ) (n : ℕ) → part_of t n ≡ leaf → Nest t n (n + 1)
nest_leaf t n e = record {
  within = λ i c l h x. absurd (none i (omega arith) c x);
  apart = λ i j c l h g x y. absurd (omega arith);
  ordered = λ i l h. let p : n ≡ i = omega arith in subst (λ y. Ordered (part_of t y)) p (subst Ordered (sym e) tt);
  owned = λ c l h. absurd (omega arith);
}
  where
    none : (i : ℕ) → i ≡ n → (c : ℕ) → Child (part_of t i) c → ⊥
    none i p c x = subst (λ y. Child y c) e (subst (λ y. Child (part_of t y) c) p x)

-- A part behind the one that it has.
nest_one : (t : List ℕ) (n m : ℕ) → n < m → Nest t n m → ((c : ℕ) → Child (part_of t m) c → c ≡ m - 1) → Child (part_of t m) (m - 1) → Ordered (part_of t m) → Nest t n (m + 1)
nest_one t n m lt w e own o = record {
  within = λ i c l h x. case_lt i m
      (λ s. w.within i c l s x)
      (λ s. let z = e c (moved i (omega arith) c x) in (omega arith, omega arith));
  apart = λ i j c l h g x y. case_lt j m
      (λ s. w.apart i j c l h s x y)
      (λ s. let z = e c (moved j (omega arith) c y) in let u = w.within i c l (omega arith) x in omega arith);
  ordered = λ i l h. case_lt i m (λ s. w.ordered i l s) (λ s. let p : m ≡ i = omega arith in subst (λ y. Ordered (part_of t y)) p o);
  owned = λ c l h. case_lt c (m - 1)
      (λ s. let (i, a, b, x) = w.owned c l s in (i, a, omega arith, x))
      (λ s. let p : m - 1 ≡ c = omega arith in (m, omega arith, omega arith, subst (Child (part_of t m)) p own));
}
  where
    moved : (i : ℕ) → i ≡ m → (c : ℕ) → Child (part_of t i) c → Child (part_of t m) c
    moved i p c x = subst (λ y. Child (part_of t y) c) p x

-- A part behind the two that it has.
nest_two : (t : List ℕ) (n m k : ℕ) → n < m → m < k → Nest t n m → Nest t m k → ((c : ℕ) → Child (part_of t k) c → (c ≡ m - 1) ⊎ (c ≡ k - 1))
    → Child (part_of t k) (m - 1) → Child (part_of t k) (k - 1) → Ordered (part_of t k) → Nest t n (k + 1)
nest_two t n m k lm lk v w e own₁ own₂ o = record {
  within = λ i c l h x. case_lt i m
      (λ s. v.within i c l s x)
      (λ s. case_lt i k
      (λ r. let z = w.within i c s r x in (omega arith, z.1))
      (λ r. range c i (omega arith) (e c (moved i (omega arith) c x))));
  apart = λ i j c l h g x y. case_lt j m
      (λ s. v.apart i j c l h s x y)
      (λ s. case_lt j k
      (λ r. case_lt i m
      (λ a. let z = v.within i c l a x in let u = w.within j c s r y in omega arith)
      (λ a. w.apart i j c a h r x y))
      (λ r. case_lt i m
      (λ a. let z = v.within i c l a x in first c (e c (moved j (omega arith) c y)) i z.1 a)
      (λ a. let z = w.within i c a (omega arith) x in second c (e c (moved j (omega arith) c y)) i z.0 z.1 (omega arith))));
  ordered = λ i l h. case_lt i m
      (λ s. v.ordered i l s)
      (λ s. case_lt i k (λ r. w.ordered i s r) (λ r. let p : k ≡ i = omega arith in subst (λ y. Ordered (part_of t y)) p o));
  owned = λ c l h. case_lt c (m - 1)
      (λ s. let (i, a, b, x) = v.owned c l s in (i, a, omega arith, x))
      (λ s. case_lt c m
      (λ r. let p : m - 1 ≡ c = omega arith in (k, omega arith, omega arith, subst (Child (part_of t k)) p own₁))
      (λ r. case_lt c (k - 1)
      (λ a. let (i, b, d, x) = w.owned c r a in (i, b, omega arith, x))
      (λ a. let p : k - 1 ≡ c = omega arith in (k, omega arith, omega arith, subst (Child (part_of t k)) p own₂))));
}
  where
    moved : (i : ℕ) → i ≡ k → (c : ℕ) → Child (part_of t i) c → Child (part_of t k) c
    moved i p c x = subst (λ y. Child (part_of t y) c) p x

    range : (c i : ℕ) → i ≡ k → (c ≡ m - 1) ⊎ (c ≡ k - 1) → (n ≤ c) × (c < i)
    range c i p (◌⊎◌.inl z) = (omega arith, omega arith)
    range c i p (◌⊎◌.inr z) = (omega arith, omega arith)

    first : (c : ℕ) → (c ≡ m - 1) ⊎ (c ≡ k - 1) → (i : ℕ) → c < i → i < m → ⊥
    first c (◌⊎◌.inl z) i a b = omega arith
    first c (◌⊎◌.inr z) i a b = omega arith

    second : (c : ℕ) → (c ≡ m - 1) ⊎ (c ≡ k - 1) → (i : ℕ) → m ≤ c → c < i → i < k → ⊥
    second c (◌⊎◌.inl z) i a b d = omega arith
    second c (◌⊎◌.inr z) i a b d = omega arith

-- ---- what a tree that holds an expression is

module _ (t : List ℕ) (i : ℕ) where
  pub is_leaf : (k a b : ℕ) → k < 5 → get_or t i 0 ≡ number k a b → a < part_room → b < part_room → part_of t i ≡ leaf
  unfolding part_by
  is_leaf k a b l e la lb = part_is t i k a b e la lb ∙ rw (ne_eqb k 5 (λ z. omega arith), ne_eqb k 6 (λ z. omega arith), ne_eqb k 7 (λ z. omega arith), ne_eqb k 8 (λ z. omega arith))

  pub is_test : get_or t i 0 ≡ number 5 0 0 → part_of t i ≡ test (i - 1)
  unfolding part_by
  is_test e = part_is t i 5 0 0 e (omega arith) (omega arith)

  pub is_repeat : get_or t i 0 ≡ number 6 0 0 → part_of t i ≡ repeat (i - 1)
  unfolding part_by
  is_repeat e = part_is t i 6 0 0 e (omega arith) (omega arith)

  pub is_chain : (a : ℕ) → get_or t i 0 ≡ number 7 a 0 → a < part_room → part_of t i ≡ chain a (i - 1)
  unfolding part_by
  is_chain a e l = part_is t i 7 a 0 e l (omega arith)

  pub is_either : (a : ℕ) → get_or t i 0 ≡ number 8 a 0 → a < part_room → part_of t i ≡ either a (i - 1)
  unfolding part_by
  is_either a e l = part_is t i 8 a 0 e l (omega arith)

pub holds_nest : {q t : List ℕ} {n m : ℕ} {e : Expr} → Holds q t n e m → m ≤ max_parts → Nest t n m
holds_nest {t = t} (h_stay {n = n} p) s = nest_leaf t n (is_leaf t n 0 0 0 (omega arith) p (omega arith) (omega arith))
holds_nest {t = t} (h_any {n = n} p) s = nest_leaf t n (is_leaf t n 1 0 0 (omega arith) p (omega arith) (omega arith))
holds_nest {t = t} (h_step {n = n} {a = a} {s = u} r p) s = nest_leaf t n (is_leaf t n 2 a (length u) (omega arith) p r.begins r.short)
holds_nest {t = t} (h_iri {n = n} {a = a} {s = u} r p) s = nest_leaf t n (is_leaf t n 3 a (length u) (omega arith) p r.begins r.short)
holds_nest {t = t} (h_literal {n = n} {a = a} {s = u} r p) s = nest_leaf t n (is_leaf t n 4 a (length u) (omega arith) p r.begins r.short)
holds_nest {t = t} (h_nested {n = n} {m = m} h p) s =
    nest_one t n m (holds_lt h) (holds_nest h (omega arith)) (λ c x. subst (λ y. Child y c) (is_test t m p) x)
    (subst (λ y. Child y (m - 1)) (sym (is_test t m p)) refl) (subst Ordered (sym (is_test t m p)) tt)
holds_nest {t = t} (h_star {n = n} {m = m} h p) s =
    nest_one t n m (holds_lt h) (holds_nest h (omega arith)) (λ c x. subst (λ y. Child y c) (is_repeat t m p) x)
    (subst (λ y. Child y (m - 1)) (sym (is_repeat t m p)) refl) (subst Ordered (sym (is_repeat t m p)) tt)
holds_nest {t = t} (h_sequence {n = n} {m = m} {k = k} h g p) s =
    let l = holds_lt g in
    nest_two t n m k (holds_lt h) l (holds_nest h (omega arith)) (holds_nest g (omega arith)) (λ c x. subst (λ y. Child y c) (is_chain t k (m - 1) p (omega arith)) x)
    (subst (λ y. Child y (m - 1)) (sym (is_chain t k (m - 1) p (omega arith))) (inl refl)) (subst (λ y. Child y (k - 1)) (sym (is_chain t k (m - 1) p (omega arith))) (inr refl))
    (let a = holds_lt h in subst Ordered (sym (is_chain t k (m - 1) p (omega arith))) (omega arith))
holds_nest {t = t} (h_union {n = n} {m = m} {k = k} h g p) s =
    let l = holds_lt g in
    nest_two t n m k (holds_lt h) l (holds_nest h (omega arith)) (holds_nest g (omega arith)) (λ c x. subst (λ y. Child y c) (is_either t k (m - 1) p (omega arith)) x)
    (subst (λ y. Child y (m - 1)) (sym (is_either t k (m - 1) p (omega arith))) (inl refl)) (subst (λ y. Child y (k - 1)) (sym (is_either t k (m - 1) p (omega arith))) (inr refl))
    (let a = holds_lt h in subst Ordered (sym (is_either t k (m - 1) p (omega arith))) (omega arith))
