-- Writing what is to be done after the parts of a part. Assumes nothing.
use lib.ListN.{length, get_or, set, length-set}
use lib.Seq.{get_or-set_same, get_or-set_other}
use mathlib.Core.List.{List}
use mathlib.Core.Logic.{inl, inr}
use mathlib.Core.Path.{◌≡◌, refl, sym, subst, ◌∙◌}
use native.Mathlib.Decide.{ℕ_discrete}
use native.Mathlib.Omega.{arith}
use Prim.Native.Nat.{ℕ, ◌+◌, ◌-◌, ◌≤◌, ◌<◌}
use Rattle.meaning.specs.Limits.{max_parts}
use Rattle.query.proofs.TreeLaws.{holds_lt}
use Rattle.query.specs.Tree.{first_number, kind_of}
use Rattle.walk.specs.Parts.{Part, leaf, test, repeat, chain, either, Child, Ordered, part_of, Linked, Threaded, listed}
use Rattle.walk.specs.Threading.{PartAmong, PartLinked, Threadable}
use Rattle.walk.proofs.KindLaws.{kind_leaf, kind_test, kind_repeat, kind_chain, kind_either}
use Rattle.walk.proofs.Trees.{Nest, holds_nest}

module _ {t next : List ℕ} {n i : ℕ} (r : PartAmong t next n i) where
  owns : {p : Part} → part_of t i ≡ p → (c : ℕ) → Child p c → c < i
  owns e c x = r.before c (subst (λ y. Child y c) (sym e) x)

  -- The part before it, and its left part, are its own.
  pub test_before : kind_of t i ≡ 5 → i - 1 < i
  test_before e = owns (kind_test t i e) (i - 1) refl

  pub repeat_before : kind_of t i ≡ 6 → i - 1 < i
  repeat_before e = owns (kind_repeat t i e) (i - 1) refl

  pub chain_before : kind_of t i ≡ 7 → (first_number t i < i) × (i - 1 < i)
  chain_before e = (owns (kind_chain t i e) (first_number t i) (inl refl), owns (kind_chain t i e) (i - 1) (inr refl))

  pub either_before : kind_of t i ≡ 8 → (first_number t i < i) × (i - 1 < i)
  either_before e = (owns (kind_either t i e) (first_number t i) (inl refl), owns (kind_either t i e) (i - 1) (inr refl))

  -- ---- what is written

  pub link_leaf : (kind_of t i ≡ 5 → ⊥) → (kind_of t i ≡ 6 → ⊥) → (kind_of t i ≡ 7 → ⊥) → (kind_of t i ≡ 8 → ⊥) → PartLinked t next next n i
  link_leaf a b c d = record { linked = subst (Linked (listed next) n i) (sym (kind_leaf t i a b c d)) tt; kept = λ x h. refl }

  one : (p : Part) → part_of t i ≡ p → (c v : ℕ) → c < i → Child p c → (get_or (set next c v) c 0 ≡ v → Linked (listed (set next c v)) n i p) → PartLinked t next (set next c v) n i
  one p e c v l x w = record {
    linked = subst (Linked (listed (set next c v)) n i) (sym e) (w (get_or-set_same next c v 0 (let a = r.inside in let b = r.room in omega arith)));
    kept = λ y h. get_or-set_other next c y v 0 (λ z. h (subst (λ p. Child p y) (sym e) (subst (Child p) (sym z) x)));
  }

  pub link_test : kind_of t i ≡ 5 → PartLinked t next (set next (i - 1) n) n i
  link_test e = one (test (i - 1)) (kind_test t i e) (i - 1) n (test_before e) refl (λ w. w)

  pub link_repeat : kind_of t i ≡ 6 → PartLinked t next (set next (i - 1) i) n i
  link_repeat e = one (repeat (i - 1)) (kind_repeat t i e) (i - 1) i (repeat_before e) refl (λ w. w)

  -- a then b, the left part before the right one
  two : (p : Part) → part_of t i ≡ p → (a b u v : ℕ) → a < b → b < i → Child p a → Child p b
      → ((next' : List ℕ) → get_or next' a 0 ≡ u → get_or next' b 0 ≡ v → get_or next' i 0 ≡ get_or next i 0 → Linked (listed next') n i p)
      → PartLinked t next (set (set next a u) b v) n i
  two p e a b u v la lb x y w =
      let h = r.inside in
      let g = r.room in
      let s = length-set next a u in
      record {
        linked = subst (Linked (listed (set (set next a u) b v)) n i) (sym e) (w (set (set next a u) b v)
            (get_or-set_other (set next a u) b a v 0 (λ z. omega arith) ∙ get_or-set_same next a u 0 (omega arith))
            (get_or-set_same (set next a u) b v 0 (omega arith))
            (get_or-set_other (set next a u) b i v 0 (λ z. omega arith) ∙ get_or-set_other next a i u 0 (λ z. omega arith)));
        kept = λ c k. get_or-set_other (set next a u) b c v 0 (λ z. k (subst (λ p. Child p c) (sym e) (subst (Child p) (sym z) y)))
            ∙ get_or-set_other next a c u 0 (λ z. k (subst (λ p. Child p c) (sym e) (subst (Child p) (sym z) x)));
      }

  pub link_chain : kind_of t i ≡ 7 → (left : ℕ) → left ≡ first_number t i → PartLinked t next (set (set next left (i - 1)) (i - 1) (get_or next i 0)) n i
  link_chain e left l =
      subst (λ a. PartLinked t next (set (set next a (i - 1)) (i - 1) (get_or next i 0)) n i) (sym l)
      (two (chain (first_number t i) (i - 1)) (kind_chain t i e) (first_number t i) (i - 1) (i - 1) (get_or next i 0)
      (subst Ordered (kind_chain t i e) r.ordered) (chain_before e).1 (inl refl) (inr refl)
      (λ next' x y z. (x, y ∙ sym z)))

  pub link_either : kind_of t i ≡ 8 → (left : ℕ) → left ≡ first_number t i → PartLinked t next (set (set next left (get_or next i 0)) (i - 1) (get_or next i 0)) n i
  link_either e left l =
      subst (λ a. PartLinked t next (set (set next a (get_or next i 0)) (i - 1) (get_or next i 0)) n i) (sym l)
      (two (either (first_number t i) (i - 1)) (kind_either t i e) (first_number t i) (i - 1) (get_or next i 0) (get_or next i 0)
      (subst Ordered (kind_either t i e) r.ordered) (either_before e).1 (inl refl) (inr refl)
      (λ next' x y z. (x ∙ sym z, y ∙ sym z)))

-- ---- from the root down

-- The parts from i on are threaded.
pub record Threading (t next : List ℕ) (n i : ℕ) : Type 0 where
  pub root : get_or next (n - 1) 0 ≡ n
  pub linked : (j : ℕ) → i ≤ j → j < n → Linked (listed next) n j (part_of t j)

-- What is to be done after a part's parts stays so where neither changes.
relinked : (next next' : List ℕ) (n j : ℕ) (p : Part) → get_or next' j 0 ≡ get_or next j 0 → ((c : ℕ) → Child p c → get_or next' c 0 ≡ get_or next c 0)
    → Linked (listed next) n j p → Linked (listed next') n j p
relinked next next' n j leaf e k x = tt
relinked next next' n j (test b) e k x = k b refl ∙ x
relinked next next' n j (repeat b) e k x = k b refl ∙ x
relinked next next' n j (chain a b) e k (x, y) = (k a (inl refl) ∙ x, k b (inr refl) ∙ y ∙ sym e)
relinked next next' n j (either a b) e k (x, y) = (k a (inl refl) ∙ x ∙ sym e, k b (inr refl) ∙ y ∙ sym e)

-- What a tree that holds a query gives.
pub some_part : {t next : List ℕ} {n : ℕ} → Threadable t next n → (1 ≤ n) × (n ≤ max_parts)
some_part r = let a = holds_lt r.held.holds in let b = r.held.few in let c = r.held.query.fits in (omega arith, omega arith)

nested_parts : {t next : List ℕ} {n : ℕ} → Threadable t next n → Nest t 0 n
nested_parts r = holds_nest r.held.holds (some_part r).1

pub part_ready : {t next₀ : List ℕ} {n : ℕ} → Threadable t next₀ n → (next : List ℕ) (i : ℕ) → i < n → n ≤ length next → PartAmong t next n i
part_ready r next i l g = let w = nested_parts r in record {
  inside = l;
  short = (some_part r).1;
  parts = r.parts;
  room = g;
  before = λ c x. (w.within i c (omega arith) l x).1;
  ordered = w.ordered i (omega arith) l;
}

pub thread_start : {t next : List ℕ} {n : ℕ} → Threadable t next n → Threading t (set next (n - 1) n) n n
thread_start {t} {next} {n} r =
    let s = some_part r in
    let g = r.room in
    record { root = get_or-set_same next (n - 1) n 0 (omega arith); linked = λ j l h. absurd (omega arith) }

-- One part more, at i.
pub thread_again : {t next₀ next next' : List ℕ} {n k i : ℕ} → Threadable t next₀ n → i < n → k ≤ i + 1 → Threading t next n k
    → PartLinked t next next' n i → Threading t next' n i
thread_again {t} {next₀} {next} {next'} {n} {k} {i} r l up w x = record { root = root'; linked = linked' }
  where
    nest : Nest t 0 n
    nest = nested_parts r

    -- no part at i or behind it is a part of i
    behind : (j : ℕ) → i ≤ j → get_or next' j 0 ≡ get_or next j 0
    behind j h = x.kept j (λ c. let z = (nest.within i j (omega arith) l c).1 in omega arith)

    root' : get_or next' (n - 1) 0 ≡ n
    root' = behind (n - 1) (omega arith) ∙ w.root

    linked' : (j : ℕ) → i ≤ j → j < n → Linked (listed next') n j (part_of t j)
    linked' j h g = go (ℕ_discrete j i)
      where
        go : Dec (j ≡ i) → Linked (listed next') n j (part_of t j)
        go (yes p) = subst (λ y. Linked (listed next') n y (part_of t y)) (sym p) x.linked
        go (no p) = relinked next next' n j (part_of t j) (behind j h)
            (λ c k. x.kept c (λ z. nest.apart i j c (omega arith) (omega arith) g z k)) (w.linked j (omega arith) g)

pub thread_done : {t next : List ℕ} {n i : ℕ} → i ≤ 0 → Threading t next n i → Threaded (part_of t) (listed next) n
thread_done z w = record { root = w.root; linked = λ i l. w.linked i (omega arith) l }
