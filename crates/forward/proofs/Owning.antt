-- Listing the triples that end at named nodes, those of each node in its part. Assumes nothing.
use lib.ListN.{get_or, length, length-set, set}
use lib.Seq.{get_or-set_other, get_or-set_same}
use mathlib.Core.List.{List}
use mathlib.Core.Logic.{◌↔◌}
use mathlib.Core.Path.{refl, subst, sym, ◌∙◌, ◌≡◌}
use native.Mathlib.Decide.{dec_lt, ℕ_discrete}
use native.Mathlib.Omega.{arith}
use Prim.Native.Nat.{ℕ, ◌+◌, ◌-◌, ◌<◌, ◌≤◌}
use Rattle.index.specs.Subjects.{BySubject, SubjectRange, count_at, first_at}
use Rattle.index.specs.Triples.{GraphFits, object_at}
use Rattle.forward.specs.Own.{ListedIn, OwnBySubject, OwnReady, OwnWithin, end_at}

-- What is listed depends on the part alone.
listed_same : {own own' : List ℕ} {lo hi k : ℕ} → ((j : ℕ) → lo ≤ j → j < hi → get_or own' j 0 ≡ get_or own j 0) → ListedIn own lo hi k → ListedIn own' lo hi k
listed_same e l = record {
  at = l.at;
  above = l.above;
  below = l.below;
  entry = e l.at l.above l.below ∙ l.entry;
  before = λ j a b. let p = l.below in let q = e j a (omega arith) in let r = l.before j a b in omega arith;
}

-- ---- one part

-- The triples from lo up to k are passed; those that end at named nodes are listed from lo up to end.
pub record Owning (triples : List ℕ) (named lo hi : ℕ) (own₀ own : List ℕ) (k end : ℕ) : Type 0 where
  pub long : length own ≡ length own₀
  pub from : lo ≤ end
  pub few : end ≤ k
  pub inside : k ≤ hi
  pub only : (j : ℕ) → lo ≤ j → j < end → (x : ℕ) × (get_or own j 0 ≡ x + 1) × (lo ≤ x) × (x < k) × (object_at triples x < named)
  pub all : (x : ℕ) → lo ≤ x → x < k → object_at triples x < named → (j : ℕ) × (lo ≤ j) × (j < end) × (get_or own j 0 ≡ x + 1)
  pub kept : (j : ℕ) → (lo ≤ j → j < hi → ⊥) → get_or own j 0 ≡ get_or own₀ j 0

module _ {triples : List ℕ} {named lo hi : ℕ} {own₀ : List ℕ} where
  pub own_start : lo ≤ hi → Owning triples named lo hi own₀ own₀ lo lo
  own_start l = record {
    long = refl;
    from = omega arith;
    few = omega arith;
    inside = l;
    only = λ j a b. absurd (omega arith);
    all = λ x a b. absurd (omega arith);
    kept = λ j a. refl;
  }

  module _ {own : List ℕ} {k end : ℕ} (o : Owning triples named lo hi own₀ own k end) where
    -- it ends elsewhere
    pub own_pass : k < hi → named ≤ object_at triples k → Owning triples named lo hi own₀ own (k + 1) end
    own_pass l h = record {
      long = o.long;
      from = o.from;
      few = let a = o.few in omega arith;
      inside = omega arith;
      only = λ j a b. let (x, e, p, q, r) = o.only j a b in (x, e, p, omega arith, r);
      all = λ x a b g. all x a b g (dec_lt x k);
      kept = o.kept;
    }
      where
        all : (x : ℕ) → lo ≤ x → x < k + 1 → object_at triples x < named → Dec (x < k) → (j : ℕ) × (lo ≤ j) × (j < end) × (get_or own j 0 ≡ x + 1)
        all x a b g (yes w) = o.all x a w g
        all x a b g (no w) = let p : x ≡ k = omega arith in absurd (let z = subst (λ y. object_at triples y < named) p g in omega arith)

    -- it is listed
    pub own_add : k < hi → hi ≤ length own₀ → object_at triples k < named → Owning triples named lo hi own₀ (set own end (k + 1)) (k + 1) (end + 1)
    own_add l room h = record {
      long = length-set own end (k + 1) ∙ o.long;
      from = let a = o.from in omega arith;
      few = let a = o.few in omega arith;
      inside = omega arith;
      only = λ j a b. only j a b (ℕ_discrete j end);
      all = λ x a b g. all x a b g (dec_lt x k);
      kept = λ j a. other j (λ e. let p = o.from in let q = o.few in a (omega arith) (omega arith)) ∙ o.kept j a;
    }
      where
        here : get_or (set own end (k + 1)) end 0 ≡ k + 1
        here = get_or-set_same own end (k + 1) 0 (let a = o.few in let b = o.long in omega arith)

        other : (j : ℕ) → (j ≡ end → ⊥) → get_or (set own end (k + 1)) j 0 ≡ get_or own j 0
        other j n = get_or-set_other own end j (k + 1) 0 n

        only : (j : ℕ) → lo ≤ j → j < end + 1 → Dec (j ≡ end)
            → (x : ℕ) × (get_or (set own end (k + 1)) j 0 ≡ x + 1) × (lo ≤ x) × (x < k + 1) × (object_at triples x < named)
        only j a b (yes p) =
            let q = o.few in (k, subst (λ y. get_or (set own end (k + 1)) y 0 ≡ k + 1) (sym p) here, omega arith, omega arith, h)
        only j a b (no p) = let (x, e, q, r, s) = o.only j a (omega arith) in (x, other j p ∙ e, q, omega arith, s)

        all : (x : ℕ) → lo ≤ x → x < k + 1 → object_at triples x < named → Dec (x < k) → (j : ℕ) × (lo ≤ j) × (j < end + 1) × (get_or (set own end (k + 1)) j 0 ≡ x + 1)
        all x a b g (yes w) = let (j, p, q, r) = o.all x a w g in (j, p, omega arith, other j (λ s. omega arith) ∙ r)
        all x a b g (no w) = (end, o.from, omega arith, here ∙ omega arith)

    -- a 0 is written after the last
    own_close : end < hi → Owning triples named lo hi own₀ (set own end 0) k end
    own_close l = record {
      long = length-set own end 0 ∙ o.long;
      from = o.from;
      few = o.few;
      inside = o.inside;
      only = λ j a b. let (x, e, p, q, r) = o.only j a b in (x, other j (λ s. omega arith) ∙ e, p, q, r);
      all = λ x a b g. let (j, p, q, r) = o.all x a b g in (j, p, q, other j (λ s. omega arith) ∙ r);
      kept = λ j a. other j (λ e. let p = o.from in a (omega arith) (omega arith)) ∙ o.kept j a;
    }
      where
        other : (j : ℕ) → (j ≡ end → ⊥) → get_or (set own end 0) j 0 ≡ get_or own j 0
        other j n = get_or-set_other own end j 0 0 n

    -- All are passed, and a 0 ends the part or it is full.
    own_done : hi ≤ k → (end < hi → get_or own end 0 ≡ 0) → OwnWithin triples named lo hi own₀ own
    own_done l z = record { exactly = λ x. (λ t. only x t (dec_lt t.at end), λ (a, b, g). all x a b g); kept = o.kept }
      where
        only : (x : ℕ) → (t : ListedIn own lo hi x) → Dec (t.at < end) → (lo ≤ x) × (x < hi) × (object_at triples x < named)
        only x t (yes h) =
            let (y, e, p, q, r) = o.only t.at t.above h in
            let i = o.inside in
            let s = t.entry in
            let w : y ≡ x = omega arith in
            (omega arith, omega arith, subst (λ v. object_at triples v < named) w r)
        only x t (no h) = absurd (past (ℕ_discrete t.at end))
          where
            ends : get_or own end 0 ≡ 0
            ends = let b = t.below in z (omega arith)

            past : Dec (t.at ≡ end) → ⊥
            past (yes p) = let e = subst (λ y. get_or own y 0 ≡ x + 1) p t.entry in let w = ends in omega arith
            past (no p) = let e = t.before end o.from (omega arith) in let w = ends in omega arith

        all : (x : ℕ) → lo ≤ x → x < hi → object_at triples x < named → ListedIn own lo hi x
        all x a b g =
            let (j, p, q, e) = o.all x a (omega arith) g in
            let r = o.few in
            let s = o.inside in
            record { at = j; above = p; below = omega arith; entry = e; before = λ i c d. let u = (o.only i c (omega arith)).1 in omega arith }

    pub own_full : hi ≤ k → hi ≤ end → OwnWithin triples named lo hi own₀ own
    own_full l h = own_done l (λ a. absurd (omega arith))

  pub own_closed : {own : List ℕ} {k end : ℕ} → Owning triples named lo hi own₀ own k end → hi ≤ k → hi ≤ length own₀ → end < hi
      → OwnWithin triples named lo hi own₀ (set own end 0)
  own_closed {own} {k} {end} o l room h = own_done (own_close o h) l (λ a. get_or-set_same own end 0 0 (let b = o.long in omega arith))

-- ---- all named nodes

-- The parts of the nodes below n are listed.
pub record PartsListed (triples : List ℕ) (named : ℕ) (index own : List ℕ) (n : ℕ) : Type 0 where
  pub parts : (m k : ℕ) → m < n → ListedIn own (first_at index m) (end_at index m) k ↔ ((first_at index m ≤ k) × (k < end_at index m) × (object_at triples k < named))

module _ {triples : List ℕ} {named : ℕ} {index : List ℕ} where
  pub parts_start : {own : List ℕ} → PartsListed triples named index own 0
  parts_start = record { parts = λ m k h. absurd (omega arith) }

  module _ {edges : ℕ} (s : BySubject triples named edges index) where
    -- A node's part is within the entries of the triples.
    pub part_inside : (n : ℕ) → n < named → end_at index n ≤ edges
    part_inside n l = go (ℕ_discrete (count_at index n) 0)
      where
        r : SubjectRange triples edges n (first_at index n) (count_at index n)
        r = s.ranges n l

        go : Dec (count_at index n ≡ 0) → end_at index n ≤ edges
        go (yes z) = let a = r.none z in omega arith
        go (no z) = let a = ((r.its (end_at index n - 1)).1 (omega arith, omega arith)).0 in omega arith

    -- A triple has one subject, so no two nodes share an entry.
    part_apart : (m n j : ℕ) → m < named → n < named → (m ≡ n → ⊥) → first_at index m ≤ j → j < end_at index m → first_at index n ≤ j → j < end_at index n → ⊥
    part_apart m n j g h d a b e f = d (sym (((s.ranges m g).its j).1 (a, b)).1 ∙ (((s.ranges n h).its j).1 (e, f)).1)

    pub parts_again : {own own' : List ℕ} {n : ℕ} → n < named → PartsListed triples named index own n → OwnWithin triples named (first_at index n) (end_at index n) own own'
        → PartsListed triples named index own' (n + 1)
    parts_again {own} {own'} {n} l p w = record { parts = λ m k h. go m k h (ℕ_discrete m n) }
      where
        go : (m k : ℕ) → m < n + 1 → Dec (m ≡ n) → ListedIn own' (first_at index m) (end_at index m) k ↔ ((first_at index m ≤ k) × (k < end_at index m) × (object_at triples k < named))
        go m k h (yes e) =
            subst (λ x. ListedIn own' (first_at index x) (end_at index x) k ↔ ((first_at index x ≤ k) × (k < end_at index x) × (object_at triples k < named))) (sym e) (w.exactly k)
        go m k h (no e) =
            let b = p.parts m k (omega arith) in
            ((λ t. b.0 (listed_same (λ j a c. sym (same j a c)) t)), (λ t. listed_same same (b.1 t)))
          where
            same : (j : ℕ) → first_at index m ≤ j → j < end_at index m → get_or own' j 0 ≡ get_or own j 0
            same j a c = w.kept j (part_apart m n j (omega arith) l e a c)

  pub parts_done : {edges n : ℕ} {own₀ own : List ℕ} → OwnReady triples edges named own₀ index → length own ≡ length own₀ → named ≤ n → PartsListed triples named index own n
      → OwnBySubject triples edges named own index
  parts_done {edges} {n} {own₀} {own} r long l p = record {
    long = r.by_subject.long;
    room = λ m h. let a = part_inside r.by_subject m h in let b = r.room in omega arith;
    exactly = λ m k h. (
      (λ t. let (a, b, g) = (p.parts m k (omega arith)).0 t in let (i, e) = ((r.by_subject.ranges m h).its k).1 (a, b) in record { inside = i; subject = e; object = g }),
      (λ t. let (a, b) = ((r.by_subject.ranges m h).its k).0 (t.inside, t.subject) in (p.parts m k (omega arith)).1 (a, b, t.object)),
    );
  }

-- The index of all nodes is one of the named nodes.
pub own_ready : {triples own index : List ℕ} {nodes edges named : ℕ} → GraphFits nodes edges triples → BySubject triples nodes edges index → named ≤ nodes → edges ≤ length own
    → OwnReady triples edges named own index
own_ready g s l room = record {
  few = g.few_edges;
  whole = g.whole;
  by_subject = record { long = let a = s.long in omega arith; ranges = λ n h. s.ranges n (omega arith) };
  room = room;
}
