-- What a user of marked states needs: they grow, one state is looked at in a turn, and at the end all have been. Assumes nothing.
use lib.Count.{count_trailing_zeros}
use lib.ListN.{get_or, get_or-replicate, length, replicate}
use mathlib.Core.List.{List}
use mathlib.Core.Logic.{inl, inr, ⊎_elim, ◌⊎◌}
use mathlib.Core.Path.{ap, refl, subst, sym, ◌∙◌, ◌≡◌}
use native.Mathlib.Decide.{dec_lt, ℕ_discrete}
use native.Mathlib.Omega.{arith}
use Prim.Native.Nat.{ℕ, ◌%◌, ◌*◌, ◌+◌, ◌-◌, ◌/◌, ◌<◌, ◌^◌, ◌≤◌}
use Rattle.meaning.proofs.Lists.Bits.{zero_bits}
use Rattle.meaning.specs.TypeSet.{bit}
use Rattle.meaning.proofs.Lists.Lowest.{cleared, cleared_le, cleared_member, lowest}
use Rattle.meaning.proofs.Lists.Masks.{bit_small}
use Rattle.worklist.specs.Table.{Adds, AddsOnly, Board, Cleared, FromWord, InWord, Looked, Marked, Same, Stacked, Table, Takes, Unmarked, left, mark}
use Rattle.worklist.proofs.Marks.{mark_lt, mark_zero, marked_word, one_in, zero_word}
use Rattle.worklist.proofs.Stack.{stacked_as, stacked_none}
use Rattle.worklist.proofs.Sums.{sum_less, sum_same}

-- ---- more numbers are marked

pub same_start : {a : Board} → Same a a
same_start = record { is = refl }

pub same_then : {a b c : Board} → Same a b → Same b c → Same a c
same_then d e = record { is = e.is ∙ d.is }

module _ {n : ℕ} {S Y : ℕ → Type 0} {a : Board} where
  -- None is to be marked.
  pub adds_none : Table n a → ((y : ℕ) → Y y → ⊥) → Adds n S Y a a
  adds_none t none = record {
    lent = same_start;
    after = t;
    more = λ x e. e;
    new = λ x e. inl e;
    all = λ y h. absurd (none y h);
    looked = λ x l e. e;
    still = λ x l e. e;
  }

  -- Others are asked for, which are marked, and more are allowed.
  pub adds_for : {S' Y' : ℕ → Type 0} {b : Board} → Adds n S Y a b → ((y : ℕ) → S y → S' y) → ((y : ℕ) → Y' y → Marked b.marked y) → Adds n S' Y' a b
  adds_for d f g = record {
    lent = d.lent;
    after = d.after;
    more = d.more;
    new = λ x e. ⊎_elim (λ h. inl h) (λ h. inr (f x h)) (d.new x e);
    all = g;
    looked = d.looked;
    still = d.still;
  }

  -- Fewer are asked for, and more are allowed.
  pub adds_as : {S' Y' : ℕ → Type 0} {b : Board} → Adds n S Y a b → ((y : ℕ) → S y → S' y) → ((y : ℕ) → Y' y → Y y) → Adds n S' Y' a b
  adds_as d f g = adds_for d f (λ y h. d.all y (g y h))

  pub adds_then : {Z : ℕ → Type 0} {b c : Board} → Adds n S Y a b → Adds n S Z b c → Adds n S (λ y. Y y ⊎ Z y) a c
  adds_then d e = record {
    lent = same_then d.lent e.lent;
    after = e.after;
    more = λ x h. e.more x (d.more x h);
    new = λ x h. ⊎_elim (λ g. d.new x g) (λ g. inr g) (e.new x h);
    all = λ y p. ⊎_elim (λ q. e.more y (d.all y q)) (λ q. e.all y q) p;
    looked = λ x l h. d.looked x l (e.looked x l h);
    still = λ x l h. e.still x l (d.still x l h);
  }

  -- What is marked stays such as P says.
  pub adds_sound : {b : Board} → Adds n S Y a b → (P : ℕ → Type 0) → ((x : ℕ) → x < n * 64 → Marked a.marked x → P x) → ((x : ℕ) → S x → P x)
      → (x : ℕ) → x < n * 64 → Marked b.marked x → P x
  adds_sound d P f g x l e = ⊎_elim (f x l) (g x) (d.new x e)

-- The same numbers, said twice.
pub adds_same : {n : ℕ} {Y Z : ℕ → Type 0} {a b : Board} → Adds n Y Y a b → ((y : ℕ) → Y y → Z y) → ((y : ℕ) → Z y → Y y) → Adds n Z Z a b
adds_same d f g = adds_as d f g

-- One group of numbers, then another.
pub adds_both : {n : ℕ} {Y Z X : ℕ → Type 0} {a b c : Board} → Adds n Y Y a b → Adds n Z Z b c → ((y : ℕ) → Y y → X y) → ((y : ℕ) → Z y → X y)
    → ((y : ℕ) → X y → Y y ⊎ Z y) → Adds n X X a c
adds_both {n} {Y} {Z} {X} d e f g h =
    adds_as {S = X} {Y = λ y. Y y ⊎ Z y} (adds_then (adds_as {S' = X} {Y' = Y} d f (λ y x. x)) (adds_as {S' = X} {Y' = Z} e g (λ y x. x))) (λ y x. x) h

-- One state of a word; m is its bit as code makes it.
pub one_marked : {n : ℕ} {a b : Board} {s : ℕ} (m : ℕ) → m ≡ 2 ^ (s % 64) → AddsOnly n (InWord (s / 64) m) a b → AddsOnly n (λ y. y ≡ s) a b
one_marked {n} {a} {b} {s} m e d = adds_same (subst (λ x. AddsOnly n (InWord (s / 64) x) a b) e d) (λ y h. (one_in s y).0 h) (λ y h. (one_in s y).1 h)

-- ---- how many have not been looked at

abbrev todo : Board → ℕ → ℕ
todo b x = 1 - (mark b.marked x - mark b.waiting x)

looked_none : {b : Board} {x : ℕ} → Looked b x → todo b x ≡ 0
looked_none h = let p = h.is in let q = h.waits_not in omega arith

looked_one : (b : Board) (x : ℕ) → (Looked b x → ⊥) → todo b x ≡ 1
looked_one b x n = go (ℕ_discrete (mark b.marked x) 1) (ℕ_discrete (mark b.waiting x) 0)
  where
    go : Dec (Marked b.marked x) → Dec (mark b.waiting x ≡ 0) → todo b x ≡ 1
    go (yes p) (yes q) = absurd (n (record { is = p; waits_not = q }))
    go (yes p) (no q) = omega arith
    go (no p) q = let z = mark_lt b.marked x in omega arith

-- Marking leaves as many.
pub adds_left : {n : ℕ} {S Y : ℕ → Type 0} {a b : Board} → Adds n S Y a b → left n b ≡ left n a
adds_left {n} {S} {Y} {a} {b} d = sum_same (todo b) (todo a) (n * 64) (λ x l. go x l (ℕ_discrete (mark a.marked x) 1) (ℕ_discrete (mark a.waiting x) 0))
  where
    not : (x : ℕ) → x < n * 64 → (Looked a x → ⊥) → todo b x ≡ todo a x
    not x l n = looked_one b x (λ h. n (d.looked x l h)) ∙ sym (looked_one a x n)

    go : (x : ℕ) → x < n * 64 → Dec (Marked a.marked x) → Dec (mark a.waiting x ≡ 0) → todo b x ≡ todo a x
    go x l (yes p) (yes q) = let h : Looked a x = record { is = p; waits_not = q } in looked_none (d.still x l h) ∙ sym (looked_none h)
    go x l (yes p) (no q) = not x l (λ h. q h.waits_not)
    go x l (no p) q = not x l (λ h. p h.is)

-- ---- a turn: numbers are taken, and more are marked

module _ {n : ℕ} {T : ℕ → Type 0} {a c : Board} (t : Table n a) (k : Takes n T a c) where
  pub turn_table : Table n c
  turn_table = record {
    long = subst (λ xs. n ≤ length xs) (sym k.marked) t.long;
    stacked = k.after;
    within = λ x l e. subst (λ xs. Marked xs x) (sym k.marked) (t.within x l (k.less x e));
  }

  -- They were marked.
  pub turn_marked : (x : ℕ) → T x → Marked a.marked x
  turn_marked x h = t.within x (k.inside x h) (k.was x h)

  -- A state that has been looked at is one that is taken, or was looked at before.
  taken_looked : (x : ℕ) → Looked c x → T x ⊎ Looked a x
  taken_looked x h = go (ℕ_discrete (mark a.waiting x) 1)
    where
      go : Dec (Marked a.waiting x) → T x ⊎ Looked a x
      go (yes p) = inl (k.which x p h.waits_not)
      go (no n) = inr (record { is = subst (λ xs. Marked xs x) k.marked h.is; waits_not = mark_zero a.waiting x n })

  -- Fewer are left.
  taken_left : left n c < left n a
  taken_left = sum_less (todo c) (todo a) (n * 64) k.some (k.inside k.some k.some_is)
      (let p = turn_marked k.some k.some_is in let q = k.was k.some k.some_is in let r = k.gone k.some k.some_is in
      let e : mark c.marked k.some ≡ mark a.marked k.some = ap (λ xs. mark xs k.some) k.marked in omega arith)
      (λ x l. fewer x (ap (λ xs. mark xs x) k.marked) (ℕ_discrete (mark c.waiting x) 1))
    where
      fewer : (x : ℕ) → mark c.marked x ≡ mark a.marked x → Dec (Marked c.waiting x) → todo c x ≤ todo a x
      fewer x e (yes p) = let q = k.less x p in omega arith
      fewer x e (no n) = let q = mark_zero c.waiting x n in omega arith

  module _ {S Y : ℕ → Type 0} {b : Board} (d : Adds n S Y c b) where
    pub turn_looked : (x : ℕ) → x < n * 64 → Looked b x → T x ⊎ Looked a x
    turn_looked x l h = taken_looked x (d.looked x l h)

    pub turn_left : left n b < left n a
    turn_left = let p = adds_left d in let q = taken_left in omega arith

-- ---- the numbers of a word, one after another

-- R says of each what S says
pub from_same : {w bits : ℕ} {R S : ℕ → ℕ → Type 0} → ((x y : ℕ) → InWord w bits x → R x y → S x y) → (y : ℕ) → FromWord w bits R y → FromWord w bits S y
from_same f y r = record { from = r.from; is = r.is; leads = f r.from y r.is r.leads }

-- What R leads to from the numbers of a word is marked, but for the numbers that are left.
pub record Sweeping (n : ℕ) (R : ℕ → ℕ → Type 0) (w bits : ℕ) (a b : Board) (rest : ℕ) : Type 0 where
  pub within : (t : ℕ) → bit t rest ≡ 1 → bit t bits ≡ 1
  pub small : rest ≤ bits
  pub adds : Adds n (FromWord w bits R) (λ y. ⊥) a b
  pub done : (x : ℕ) → InWord w bits x → bit (x % 64) rest ≡ 0 → (y : ℕ) → R x y → Marked b.marked y

module _ {n : ℕ} {R : ℕ → ℕ → Type 0} {w bits : ℕ} {a : Board} where
  pub sweep_start : Table n a → Sweeping n R w bits a a bits
  sweep_start t = record { within = λ t e. e; small = omega arith; adds = adds_none t (λ y h. h); done = λ x h e. absurd (let g = h.is in omega arith) }

  module _ {b : Board} {rest : ℕ} (g : Sweeping n R w bits a b rest) where
    -- the number that is next
    pub next_in : 0 < rest → bits < 2 ^ 64 → InWord w bits (w * 64 + count_trailing_zeros 64 rest)
    next_in l h =
        let k = g.small in
        let f : rest < 2 ^ 64 = omega arith in
        let z = bit_small 64 (count_trailing_zeros 64 rest) rest (lowest 64 rest l f).member f in
        let e : (w * 64 + count_trailing_zeros 64 rest) % 64 ≡ count_trailing_zeros 64 rest = omega arith in
        record { word = omega arith; is = ap (λ t. bit t bits) e ∙ g.within (count_trailing_zeros 64 rest) (lowest 64 rest l f).member }

    -- what R leads to from it is marked
    pub sweep_again : {c : Board} → 0 < rest → bits < 2 ^ 64 → AddsOnly n (R (w * 64 + count_trailing_zeros 64 rest)) b c → Sweeping n R w bits a c (cleared rest)
    sweep_again {c} l h d = record {
      within = λ t e. g.within t (cleared_member t rest e);
      small = let p = cleared_le rest in let q = g.small in omega arith;
      adds = adds_as {Y' = λ y. ⊥} (adds_then g.adds (adds_as {S' = FromWord w bits R} {Y' = λ y. ⊥} d from_next (λ y e. absurd e))) (λ y s. s) (λ y e. absurd e);
      done = λ x i e y r. go x i e y r (ℕ_discrete (x % 64) (count_trailing_zeros 64 rest));
    }
      where
        from_next : (y : ℕ) → R (w * 64 + count_trailing_zeros 64 rest) y → FromWord w bits R y
        from_next y r = record { from = w * 64 + count_trailing_zeros 64 rest; is = next_in l h; leads = r }

        go : (x : ℕ) → InWord w bits x → bit (x % 64) (cleared rest) ≡ 0 → (y : ℕ) → R x y → Dec (x % 64 ≡ count_trailing_zeros 64 rest) → Marked c.marked y
        go x i e y r (yes p) = let q = i.word in let u : x ≡ w * 64 + count_trailing_zeros 64 rest = omega arith in d.all y (subst (λ z. R z y) u r)
        go x i e y r (no n) = let k = g.small in let v : rest < 2 ^ 64 = omega arith in d.more y (g.done x i (sym ((lowest 64 rest l v).others (x % 64) n) ∙ e) y r)

    pub sweep_done : rest ≡ 0 → AddsOnly n (FromWord w bits R) a b
    sweep_done z = adds_for g.adds (λ y s. s) (λ y f. g.done f.from f.is (ap (bit (f.from % 64)) z ∙ zero_bits (f.from % 64)) y f.leads)

-- ---- the beginning and the end

-- The lists that a board had when it was given back, where each was the one that was lent.
pub given_back : {a b : Board} (P : List ℕ → List ℕ → List ℕ → Type 0) {marked waiting stack : List ℕ} → Same a b
    → (a.lent.0 ≡ b.lent.0 → marked ≡ b.marked) → (a.lent.1 ≡ b.lent.1 → waiting ≡ b.waiting) → (a.lent.2 ≡ b.lent.2 → stack ≡ b.stack)
    → P b.marked b.waiting b.stack → P marked waiting stack
given_back {a} {b} P {marked} {waiting} {stack} e f g h p =
    subst (λ x. P x waiting stack) (sym (f (ap (λ l. l.0) (sym e.is))))
    (subst (λ y. P b.marked y stack) (sym (g (ap (λ l. l.1) (sym e.is))))
    (subst (P b.marked b.waiting) (sym (h (ap (λ l. l.2) (sym e.is)))) p))

pub nothing_marked : {n : ℕ} {b : Board} → Unmarked n b.marked b.waiting b.stack → b.top ≡ 0 → Table n b
nothing_marked {n} {b} u z = record {
  long = u.long;
  stacked = stacked_as (sym z) u.empty;
  within = λ x l e. absurd (let (k, h, p) = u.empty.listed (x / 64) (omega arith) (marked_word b.waiting x e) in omega arith);
}

-- Nothing waits: each marked state has been looked at.
pub all_looked : {n : ℕ} {b : Board} → Table n b → b.top ≡ 0 → (x : ℕ) → x < n * 64 → Marked b.marked x → Looked b x
all_looked {n} {b} t z x l e = record { is = e; waits_not = mark_zero b.waiting x (λ h. let (k, g, p) = t.stacked.listed (x / 64) (omega arith) (marked_word b.waiting x h) in omega arith) }

-- Buffers of zeros.
pub zeros_unmarked : {n : ℕ} {marked waiting stack : List ℕ} (m f : ℕ) → marked ≡ replicate m 0 → waiting ≡ replicate f 0 → n < 2 ^ 16 → n ≤ m
    → n ≤ f → n ≤ length marked → n ≤ length waiting
    → n ≤ length stack → Unmarked n marked waiting stack
zeros_unmarked {n} {marked} {waiting} {stack} m f p q s a b c d e = record {
  long = c;
  none = λ x l. zero_word marked x (ap (λ y. get_or y (x / 64) 0) p ∙ get_or-replicate m (x / 64) 0 0 (omega arith));
  empty = stacked_none s d e (λ w l. ap (λ y. get_or y w 0) q ∙ get_or-replicate f w 0 0 (omega arith));
}

-- All that is marked is of the first parts, and nothing waits; these parts are cleared, and nothing is marked.
pub cleared_none : {n : ℕ} {marked marked' waiting stack : List ℕ} (m : ℕ) → Stacked n waiting stack 0 → n ≤ length marked' → ((x : ℕ) → x < n * 64 → Marked marked x → x < m)
    → Cleared m marked marked' → Unmarked n marked' waiting stack
cleared_none {n} {marked} {marked'} m e l h c = record { long = l; none = λ x g. go x g (dec_lt x m); empty = e }
  where
    go : (x : ℕ) → x < n * 64 → Dec (x < m) → mark marked' x ≡ 0
    go x g (yes r) = c.below x r
    go x g (no r) = c.above x (omega arith) ∙ mark_zero marked x (λ p. r (h x g p))
