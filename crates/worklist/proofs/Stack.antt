-- The stack of the words in which numbers wait: a word comes, goes, or changes. Assumes nothing.
use lib.ListN.{get_or, length, length-set, set}
use lib.Seq.{get_or-set_other, get_or-set_same}
use mathlib.Core.List.{List}
use mathlib.Core.Logic.{◌≢◌}
use mathlib.Core.Path.{ap, subst, sym, ◌∙◌, ◌≡◌}
use native.Mathlib.Decide.{dec_lt, ℕ_discrete}
use native.Mathlib.Omega.{arith}
use Prim.Native.Nat.{min, suc, ℕ, ◌+◌, ◌-◌, ◌<◌, ◌^◌, ◌≤◌}
use Rattle.worklist.specs.Table.{Stacked, busy}
use Rattle.worklist.proofs.Sums.{sum_most, sum_none, sum_one, sum_same}

-- The number that `busy` adds up.
abbrev one : List ℕ → ℕ → ℕ
one table w = min 1 (get_or table w 0)

pub busy_most : (n : ℕ) (table : List ℕ) → busy n table ≤ n
busy_most n table = sum_most (one table) n (λ w l. omega arith)

-- Nothing waits.
pub stacked_none : {n : ℕ} {waiting stack : List ℕ} → n < 2 ^ 16 → n ≤ length waiting → n ≤ length stack → ((w : ℕ) → w < n → get_or waiting w 0 ≡ 0)
    → Stacked n waiting stack 0
stacked_none {n} {waiting} {stack} s l r z = record {
  small = s;
  long = l;
  room = r;
  count = sym (sum_none (one waiting) n (λ w h. let a = z w h in omega arith));
  inside = λ k h. absurd (omega arith);
  waits = λ k h. absurd (omega arith);
  listed = λ w h p. absurd (let a = z w h in omega arith);
  once = λ j k h g. absurd (omega arith);
}

pub top_few : {n : ℕ} {waiting stack : List ℕ} {top : ℕ} → Stacked n waiting stack top → top ≤ n
top_few {n} {waiting} d = let a = busy_most n waiting in let b = d.count in omega arith

-- The same number of words on the stack, said twice.
pub stacked_as : {n : ℕ} {waiting stack : List ℕ} {top top' : ℕ} → top ≡ top' → Stacked n waiting stack top → Stacked n waiting stack top'
stacked_as {n} {waiting} {stack} e d = subst (Stacked n waiting stack) e d

-- Nothing waits in fewer words.
pub stacked_fewer : {m n : ℕ} {waiting stack : List ℕ} → m ≤ n → Stacked n waiting stack 0 → Stacked m waiting stack 0
stacked_fewer {m} {n} {waiting} l d =
    let s = d.small in
    let a = d.long in
    let b = d.room in
    stacked_none (omega arith) (omega arith) (omega arith) (λ w h. none w h (ℕ_discrete (get_or waiting w 0) 0))
  where
    none : (w : ℕ) → w < m → Dec (get_or waiting w 0 ≡ 0) → get_or waiting w 0 ≡ 0
    none w h (yes e) = e
    none w h (no e) = absurd (let (k, g, p) = d.listed w (omega arith) (omega arith) in omega arith)

module _ {n : ℕ} {waiting stack : List ℕ} {top : ℕ} (d : Stacked n waiting stack top) (waiting' : List ℕ) (l : n ≤ length waiting') where
  -- In the same words.
  pub stacked_same : ((w : ℕ) → w < n → one waiting w ≡ one waiting' w) → Stacked n waiting' stack top
  stacked_same e = record {
    small = d.small;
    long = l;
    room = d.room;
    count = d.count ∙ sum_same (one waiting) (one waiting') n e;
    inside = d.inside;
    waits = λ k h. let a = d.waits k h in let b = e (get_or stack k 0) (d.inside k h) in omega arith;
    listed = λ w h p. let b = e w h in d.listed w h (omega arith);
    once = d.once;
  }

  -- In the word w too.
  module _ (w : ℕ) (h : w < n) (was : get_or waiting w 0 ≡ 0) (is : 0 < get_or waiting' w 0) (others : (v : ℕ) → v ≢ w → get_or waiting' v 0 ≡ get_or waiting v 0) where
    more : busy n waiting' ≡ suc (busy n waiting)
    more = sum_one (one waiting') (one waiting) n w h (omega arith) (λ v g n. let a = others v n in omega arith)

    pub has_room : top < length stack
    has_room = let a = more in let b = busy_most n waiting' in let c = d.count in let e = d.room in omega arith

    at_top : get_or (set stack top w) top 0 ≡ w
    at_top = get_or-set_same stack top w 0 has_room

    below : (k : ℕ) → k < top → get_or (set stack top w) k 0 ≡ get_or stack k 0
    below k g = get_or-set_other stack top k w 0 (λ q. omega arith)

    last_or : (P : ℕ → Type 0) → ((k : ℕ) → k < top → P (get_or stack k 0)) → P w → (k : ℕ) → k < top + 1 → P (get_or (set stack top w) k 0)
    last_or P f x k g = go (dec_lt k top)
      where
        go : Dec (k < top) → P (get_or (set stack top w) k 0)
        go (yes r) = subst P (sym (below k r)) (f k r)
        go (no r) = let p : k ≡ top = omega arith in subst P (sym (ap (λ j. get_or (set stack top w) j 0) p ∙ at_top)) x

    -- w was not on the stack
    unlike : (k : ℕ) → k < top → get_or stack k 0 ≢ w
    unlike k g p = let a = d.waits k g in let b = ap (λ v. get_or waiting v 0) p in omega arith

    pub stacked_push : Stacked n waiting' (set stack top w) (top + 1)
    stacked_push = record {
      small = d.small;
      long = l;
      room = simp length-set d.room;
      count = let a = more in let b = d.count in omega arith;
      inside = last_or (λ v. v < n) d.inside h;
      waits = last_or (λ v. 0 < get_or waiting' v 0) (λ k g. subst (λ x. 0 < x) (sym (others (get_or stack k 0) (unlike k g))) (d.waits k g)) is;
      listed = λ v g p. find v g p (ℕ_discrete v w);
      once = λ j k g r p. apart j k g (dec_lt k top) r p;
    }
      where
        find : (v : ℕ) → v < n → 0 < get_or waiting' v 0 → Dec (v ≡ w) → (k : ℕ) × (k < top + 1) × (get_or (set stack top w) k 0 ≡ v)
        find v g p (yes e) = (top, omega arith, at_top ∙ sym e)
        find v g p (no e) = let (k, r, q) = d.listed v g (subst (λ x. 0 < x) (others v e) p) in (k, omega arith, below k r ∙ q)

        apart : (j k : ℕ) → j < k → Dec (k < top) → k < top + 1 → get_or (set stack top w) j 0 ≡ get_or (set stack top w) k 0 → ⊥
        apart j k g (yes r) s p = d.once j k g r (sym (below j (omega arith)) ∙ p ∙ below k r)
        apart j k g (no r) s p =
            let q : k ≡ top = omega arith in
            unlike j (omega arith) (sym (below j (omega arith)) ∙ p ∙ ap (λ x. get_or (set stack top w) x 0) q ∙ at_top)

  -- No longer in the last word.
  module _ (some : 0 < top) (is : get_or waiting' (get_or stack (top - 1) 0) 0 ≡ 0) (others : (v : ℕ) → v ≢ get_or stack (top - 1) 0 → get_or waiting' v 0 ≡ get_or waiting v 0) where
    fewer : busy n waiting ≡ suc (busy n waiting')
    fewer = sum_one (one waiting) (one waiting') n (get_or stack (top - 1) 0) (d.inside (top - 1) (omega arith)) (let a = d.waits (top - 1) (omega arith) in omega arith)
        (λ v g n. let a = others v n in omega arith)

    -- another word than the last
    before : (k : ℕ) → k < top - 1 → get_or stack k 0 ≢ get_or stack (top - 1) 0
    before k g p = d.once k (top - 1) g (omega arith) p

    pub stacked_pop : Stacked n waiting' stack (top - 1)
    stacked_pop = record {
      small = d.small;
      long = l;
      room = d.room;
      count = let a = fewer in let b = d.count in omega arith;
      inside = λ k g. d.inside k (omega arith);
      waits = λ k g. subst (λ x. 0 < x) (sym (others (get_or stack k 0) (before k g))) (d.waits k (omega arith));
      listed = λ v g p. find v g p (ℕ_discrete v (get_or stack (top - 1) 0));
      once = λ j k g r p. d.once j k g (omega arith) p;
    }
      where
        find : (v : ℕ) → v < n → 0 < get_or waiting' v 0 → Dec (v ≡ get_or stack (top - 1) 0) → (k : ℕ) × (k < top - 1) × (get_or stack k 0 ≡ v)
        find v g p (yes e) = absurd (let a = ap (λ x. get_or waiting' x 0) e in omega arith)
        find v g p (no e) =
            let (k, r, q) = d.listed v g (subst (λ x. 0 < x) (others v e) p) in
            (k, here k r q (ℕ_discrete k (top - 1)), q)
          where
            here : (k : ℕ) → k < top → get_or stack k 0 ≡ v → Dec (k ≡ top - 1) → k < top - 1
            here k r q (yes z) = absurd (e (sym q ∙ ap (λ x. get_or stack x 0) z))
            here k r q (no z) = omega arith
