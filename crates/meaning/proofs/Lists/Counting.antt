-- How many: different elements of a list are no more than its length, numbers in a span are no more than it is wide, and over
-- how many elements a set has. Assumes nothing.
use lib.ListN.{length}
use mathlib.Core.List.{List, [], ◌∷◌}
use mathlib.Core.Logic.{inl, inr, ◌≢◌, ◌⊎◌}
use mathlib.Core.Path.{◌≡◌, refl, sym, ap, ◌∙◌, subst}
use native.Mathlib.Decide.{dec_lt}
use native.Mathlib.Omega.{arith}
use Prim.Native.Nat.{ℕ, suc, zero, ◌+◌, ◌-◌, ◌≤◌, ◌<◌, zero-le}
use Rattle.meaning.proofs.Lists.Members.{below, selected, selected_in, selected_only, ∈_dec}
use Rattle.meaning.proofs.Lists.Ordered.{Strict, all_different}
use Rattle.meaning.specs.Member.{◌∈◌, here, there}
use Rattle.meaning.specs.Ordered.{InOrder, ListOf, Number, Over, before, empty}

-- ---- no more than the list

without : {A : Type 0} {x : A} {xs : List A} → x ∈ xs → List A
without (here {xs = ys} e) = ys
without (there {x = y} m) = y ∷ without m

without_length : {A : Type 0} {x : A} {xs : List A} (m : x ∈ xs) → length xs ≡ suc (length (without m))
unfolding without
without_length (here e) = refl
without_length (there m) = ap suc (without_length m)

without_keeps : {A : Type 0} {x z : A} {xs : List A} (m : x ∈ xs) → z ∈ xs → (z ≡ x → ⊥) → z ∈ without m
unfolding without
without_keeps (here e) (here f) n = absurd (n (f ∙ sym e))
without_keeps (here e) (there k) n = k
without_keeps (there m) (here f) n = here f
without_keeps (there m) (there k) n = there (without_keeps m k n)

pub pigeonhole : {A B : Type 0} (f : A → B) (xs : List A) (ys : List B) → InOrder ◌≢◌ xs → ((x : A) → x ∈ xs → f x ∈ ys)
    → ((x z : A) → x ∈ xs → z ∈ xs → f x ≡ f z → x ≡ z) → length xs ≤ length ys
pigeonhole f [] ys a h one = zero-le
pigeonhole f (x ∷ xs) ys (before p a) h one =
    let m = h x (here refl) in
    let r = pigeonhole f xs (without m) a
    (λ z i. without_keeps m (h z (there i)) (λ e. p z i (sym (one z x (there i) (here refl) e))))
    (λ y z i j. one y z (there i) (there j)) in
    omega (arith, without_length m)

-- numbers in order that stand from lo on, below lo + w
pub span : (w lo : ℕ) (xs : List ℕ) → InOrder ◌<◌ xs → ((x : ℕ) → x ∈ xs → (lo ≤ x) × (x < lo + w)) → length xs ≤ w
span w lo [] a h = zero-le
span w lo (x ∷ xs) (before p a) h =
    let b = h x (here refl) in
    let r = span (lo + w - suc x) (suc x) xs a (λ y m. let c = h y (there m) in let l : x < y = p y m in (l, omega arith)) in
    omega arith

-- ---- over so many elements

module _ {A : Type 0} {Q : A → Type 0} where
  -- a list in order has as many elements as it is long
  pub listed_over : {R : A → A → Type 0} → Strict R → {xs : List A} {k : ℕ} → InOrder R xs → ((x : A) → x ∈ xs → Q x) → k < length xs → Over k Q
  listed_over strict {xs} a f h = record { some = xs; differ = all_different strict a; members = f; over = h }

  -- the elements of a set are no more than a list that has all of them
  pub listed_few : {xs : List A} {k : ℕ} → ((x : A) → Q x → x ∈ xs) → length xs ≤ k → ¬ Over k Q
  listed_few {xs} f h o =
      let r = pigeonhole (λ x. x) o.some xs o.differ (λ x i. f x (o.members x i)) (λ x z i j e. e) in
      let s = o.over in omega arith

  pub over_sub : {S : A → Type 0} {k : ℕ} → ((x : A) → Q x → S x) → Over k Q → Over k S
  over_sub f o = record { some = o.some; differ = o.differ; members = λ x m. f x (o.members x m); over = o.over }

-- ---- one set's elements are another's

module _ {A B : Type 0} (Q : A → Type 0) (S : B → Type 0) (R : A → B → Type 0)
    (image : (a : A) → Q a → (b : B) × S b × R a b) (one : (a c : A) (b : B) → R a b → R c b → a ≡ c) where
  -- the images of a list of different elements
  record Images (xs : List A) : Type 0 where
    ys : List B
    many : length ys ≡ length xs
    differ : InOrder ◌≢◌ ys
    members : (b : B) → b ∈ ys → S b × (a : A) × (a ∈ xs) × R a b

  images : (xs : List A) → InOrder ◌≢◌ xs → ((a : A) → a ∈ xs → Q a) → Images xs
  images [] o h = record { ys = []; many = refl; differ = empty; members = λ b m. elim m [ ] }
  images (x ∷ xs) (before p o) h = made (image x (h x (here refl))) (images xs o (λ a i. h a (there i)))
    where
      made : (b : B) × S b × R x b → Images xs → Images (x ∷ xs)
      made (b, s, r) I = record {
        ys = b ∷ I.ys;
        many = ap suc I.many;
        differ = before (λ c i e. let (t, a, j, q) = I.members c i in p a j (one x a c (go e) q)) I.differ;
        members = members;
      }
        where
          go : {c : B} → b ≡ c → R x c
          go {c} e = rw (← e) r

          members : (c : B) → c ∈ (b ∷ I.ys) → S c × (a : A) × (a ∈ (x ∷ xs)) × R a c
          members c (here e) = rw e (s, x, here refl, r)
          members c (there i) = let (t, a, j, q) = I.members c i in (t, a, there j, q)

  pub over_carried : {k : ℕ} → Over k Q → Over k S
  over_carried o =
      let I = images o.some o.differ o.members in
      record { some = I.ys; differ = I.differ; members = λ b m. (I.members b m).0; over = let h = o.over in omega (arith, I.many) }

-- the elements of the first are functions of those of the second
pub over_by : {A B : Type 0} (f : B → A) {Q : A → Type 0} (S : B → Type 0) {n : ℕ} (m : ℕ) → m ≤ n → ((x : A) → Q x → (b : B) × S b × (x ≡ f b)) → Over n Q → Over m S
over_by f {Q} S m l h o =
    let c = over_carried Q S (λ x b. x ≡ f b) h (λ x y b p q. p ∙ sym q) o in
    record { some = c.some; differ = c.differ; members = c.members; over = let g = c.over in omega arith }

-- ---- a set in two parts

module _ {A : Type 0} {D : A → Type 0} (decide : (x : A) → Dec (D x)) where
  -- the elements of a list of different ones, parted
  record Parted (xs : List A) : Type 0 where
    with : List A
    without : List A
    with_differ : InOrder ◌≢◌ with
    without_differ : InOrder ◌≢◌ without
    with_members : (x : A) → x ∈ with → (x ∈ xs) × D x
    without_members : (x : A) → x ∈ without → (x ∈ xs) × (D x → ⊥)
    all : length with + length without ≡ length xs

  parted : (xs : List A) → InOrder ◌≢◌ xs → Parted xs
  parted [] o = record {
    with = [];
    without = [];
    with_differ = empty;
    without_differ = empty;
    with_members = λ x m. elim m [ ];
    without_members = λ x m. elim m [ ];
    all = refl;
  }
  parted (x ∷ xs) (before p o) = put (parted xs o) (decide x)
    where
      put : Parted xs → Dec (D x) → Parted (x ∷ xs)
      put r (yes d) = record {
        with = x ∷ r.with;
        without = r.without;
        with_differ = before (λ y m. p y (r.with_members y m).0) r.with_differ;
        without_differ = r.without_differ;
        with_members = members;
        without_members = λ y m. let q = r.without_members y m in (there q.0, q.1);
        all = let h = r.all in omega arith;
      }
        where
          members : (y : A) → y ∈ (x ∷ r.with) → (y ∈ (x ∷ xs)) × D y
          members y (here e) = (here e, rw e d)
          members y (there m) = let q = r.with_members y m in (there q.0, q.1)
      put r (no d) = record {
        with = r.with;
        without = x ∷ r.without;
        with_differ = r.with_differ;
        without_differ = before (λ y m. p y (r.without_members y m).0) r.without_differ;
        with_members = λ y m. let q = r.with_members y m in (there q.0, q.1);
        without_members = members;
        all = let h = r.all in omega arith;
      }
        where
          members : (y : A) → y ∈ (x ∷ r.without) → (y ∈ (x ∷ xs)) × (D y → ⊥)
          members y (here e) = (here e, λ h. d (rw (← e) h))
          members y (there m) = let q = r.without_members y m in (there q.0, q.1)

  -- over a + b elements: over a with D, or over b without
  pub over_parted : {Q : A → Type 0} (a b : ℕ) → Over (a + b) Q → Over a (λ x. Q x × D x) ⊎ Over b (λ x. Q x × (D x → ⊥))
  over_parted {Q} a b o = go (parted o.some o.differ)
    where
      go : Parted o.some → Over a (λ x. Q x × D x) ⊎ Over b (λ x. Q x × (D x → ⊥))
      go r = side (dec_lt a (length r.with))
        where
          side : Dec (a < length r.with) → Over a (λ x. Q x × D x) ⊎ Over b (λ x. Q x × (D x → ⊥))
          side (yes h) = inl (record { some = r.with; differ = r.with_differ; members = λ x m. let q = r.with_members x m in (o.members x q.0, q.1); over = h })
          side (no h) = inr (record {
            some = r.without;
            differ = r.without_differ;
            members = λ x m. let q = r.without_members x m in (o.members x q.0, q.1);
            over = let e = r.all in let l = o.over in omega arith;
          })

-- the numbers below n are n
pub below_many : (n : ℕ) → (length (below n) ≡ n) × InOrder ◌≢◌ (below n) × ((x : ℕ) → x ∈ below n → x < n)
unfolding below
below_many zero = (refl, empty, λ x m. elim m [ ])
below_many (suc n) = let (a, b, c) = below_many n in (ap suc a, before (λ y m e. absurd (let h = c y m in let z : n ≡ y = e in omega arith)) b, upto c)
  where
    upto : ((x : ℕ) → x ∈ below n → x < n) → (x : ℕ) → x ∈ (n ∷ below n) → x < suc n
    upto c x (here e) = omega arith
    upto c x (there m) = let h = c x m in omega arith

-- ---- exactly so many

-- the elements of a list, each once
once : {A : Type 0} → Discrete A → (xs : List A) → (ys : List A) × ListOf ◌≢◌ (λ y. y ∈ xs) ys
once same [] = ([], record { ascending = empty; members = λ y. (λ h. h, λ h. h) })
once {A} same (x ∷ xs) = put (once same xs)
  where
    put : (ys : List A) × ListOf ◌≢◌ (λ y. y ∈ xs) ys → (ys : List A) × ListOf ◌≢◌ (λ y. y ∈ (x ∷ xs)) ys
    put (ys, l) = go (∈_dec same x ys)
      where
        go : Dec (x ∈ ys) → (ys : List A) × ListOf ◌≢◌ (λ y. y ∈ (x ∷ xs)) ys
        go (yes m) = (ys, record { ascending = l.ascending; members = λ y. (λ h. there ((l.members y).0 h), back) })
          where
            back : {y : A} → y ∈ (x ∷ xs) → y ∈ ys
            back (here e) = rw e m
            back {y} (there i) = (l.members y).1 i
        go (no n) = (x ∷ ys, record { ascending = before (λ y i e. n (subst (λ z. z ∈ ys) (sym e) i)) l.ascending; members = λ y. (forth, back) })
          where
            forth : {y : A} → y ∈ (x ∷ ys) → y ∈ (x ∷ xs)
            forth (here e) = here e
            forth {y} (there i) = there ((l.members y).0 i)

            back : {y : A} → y ∈ (x ∷ xs) → y ∈ (x ∷ ys)
            back (here e) = here e
            back {y} (there i) = there ((l.members y).1 i)

module _ {A : Type 0} {Q : A → Type 0} where
  -- a decided set whose elements are all in some list has a number
  pub number_of : Discrete A → ((x : A) → Dec (Q x)) → (xs : List A) → ((x : A) → Q x → x ∈ xs) → (n : ℕ) × Number Q n
  number_of same d xs all =
      let (ys, l) = once same (selected d xs) in (
        length ys,
        record {
          all = ys;
          list = record {
            ascending = l.ascending;
            members = λ x. (λ m. (selected_only d xs ((l.members x).0 m)).1, λ q. (l.members x).1 (selected_in d (all x q) q));
          };
          many = refl;
        },
      )

  -- and not over so many
  pub number_few : {n : ℕ} → Number Q n → ¬ Over n Q
  number_few k = listed_few (λ x q. (k.list.members x).1 q) (omega (arith, k.many))

  -- there is one such number
  pub number_once : {n m : ℕ} → Number Q n → Number Q m → n ≡ m
  number_once k j = let a = most k j in let b = most j k in omega arith
    where
      most : {n m : ℕ} → Number Q n → Number Q m → n ≤ m
      most k j =
          let r = pigeonhole (λ x. x) k.all j.all k.list.ascending (λ x i. (j.list.members x).1 ((k.list.members x).0 i)) (λ x z i l e. e) in
          omega (arith, k.many, j.many)
