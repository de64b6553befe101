-- Laws of lists in order: such a list is fixed by its elements, so "ascending, and exactly the members" says which list it
-- is. Assumes nothing.
use lib.ListN.{get_or, length, take}
use mathlib.Core.List.{List, [], ◌∷◌, ◌++◌}
use mathlib.Core.Logic.Iff
use mathlib.Core.Logic.{◌↔◌, ◌≢◌}
use mathlib.Core.Path.{◌≡◌, refl, sym, ◌∙◌, subst}
use native.Mathlib.Nat.{le_of_suc-le-suc, lt_irrefl, lt_trans, not-suc-le-zero}
use native.Mathlib.Omega.{arith}
use Prim.Native.Nat.{ℕ, zero, suc, ◌≤◌, ◌<◌}
use Rattle.meaning.specs.Member.{◌∈◌, here, there}
use Rattle.meaning.specs.Ordered.{InOrder, ListOf, ◌≺◌, before, empty, equal, less, shorter}

-- ---- lists of numbers, entry by entry

pub ≺_irrefl : (xs : List ℕ) → xs ≺ xs → ⊥
≺_irrefl [] h = elim h [ ]
≺_irrefl (x ∷ xs) (less h) = omega arith
≺_irrefl (x ∷ xs) (equal e h) = ≺_irrefl xs h

pub ≺_trans : {xs ys zs : List ℕ} → xs ≺ ys → ys ≺ zs → xs ≺ zs
≺_trans shorter (less h) = shorter
≺_trans shorter (equal e h) = shorter
≺_trans (less {x} g) (less {y = z} h) = less {x = x} {y = z} (omega arith)
≺_trans (less {x} g) (equal {y = z} e h) = less {x = x} {y = z} (omega arith)
≺_trans (equal {x} e g) (less {y = z} h) = less {x = x} {y = z} (omega arith)
≺_trans (equal e g) (equal f h) = equal (e ∙ f) (≺_trans g h)

-- with the same numbers behind
pub take_less : (n : ℕ) (vs ws r : List ℕ) → vs ≺ ws → length vs ≡ length ws → length vs ≤ n → take n (vs ++ r) ≺ take n (ws ++ r)
take_less n [] [] r h e l = elim h [ ]
take_less zero (v ∷ vs) [] r h e l = elim h [ ]
take_less (suc n) (v ∷ vs) [] r h e l = elim h [ ]
take_less n [] (w ∷ ws) r h e l = absurd (let z : ⊥ = omega arith in z)
take_less zero (v ∷ vs) (w ∷ ws) r h e l = absurd (not-suc-le-zero l)
take_less (suc n) (v ∷ vs) (w ∷ ws) r (less h) e l = less h
take_less (suc n) (v ∷ vs) (w ∷ ws) r (equal q h) e l = equal q (take_less n vs ws r h (omega arith) (le_of_suc-le-suc l))

pub first_rises : (r s : List ℕ) → 0 < length r → r ≺ s → get_or r 0 0 ≤ get_or s 0 0
first_rises [] s l h = absurd (omega arith)
first_rises (x ∷ r) [] l h = elim h [ ]
first_rises (x ∷ r) (y ∷ s) l (less h) = omega arith
first_rises (x ∷ r) (y ∷ s) l (equal e h) = omega arith

-- ---- any strict order

-- what an order must be for its lists to be fixed by their elements
pub record Strict {A : Type 0} (R : A → A → Type 0) : Type 0 where
  pub irrefl : (x : A) → R x x → ⊥
  pub trans : (x y z : A) → R x y → R y z → R x z

-- the order by a key
pub by_key : {A : Type 0} (key : A → List ℕ) → Strict (λ x y. key x ≺ key y)
by_key key = record { irrefl = λ x h. ≺_irrefl (key x) h; trans = λ x y z g h. ≺_trans g h }

-- the order of numbers
pub <_strict : Strict ◌<◌
<_strict = record { irrefl = lt_irrefl; trans = λ x y z h k. lt_trans h k }

module _ {A : Type 0} {R : A → A → Type 0} (strict : Strict R) where
  -- the elements of a list in order are all different
  pub all_different : {xs : List A} → InOrder R xs → InOrder ◌≢◌ xs
  all_different empty = empty
  all_different (before {x} p a) = before (λ y m e. strict.irrefl x (subst (R x) (sym e) (p y m))) (all_different a)

  pub in_order_unique : (xs ys : List A) → InOrder R xs → InOrder R ys → ((z : A) → (z ∈ xs) ↔ (z ∈ ys)) → xs ≡ ys
  in_order_unique [] [] a b h = refl
  in_order_unique [] (y ∷ ys) a b h = elim ((h y).1 (here refl)) [ ]
  in_order_unique (x ∷ xs) [] a b h = elim ((h x).0 (here refl)) [ ]
  in_order_unique (x ∷ xs) (y ∷ ys) (before p a) (before q b) h =
      let e = heads ((h x).0 (here refl)) ((h y).1 (here refl)) in
      λ i. e i ∷ in_order_unique xs ys a b (λ z. (forth z e, back z e)) i
    where
      heads : x ∈ (y ∷ ys) → y ∈ (x ∷ xs) → x ≡ y
      heads (here e) j = e
      heads (there i) (here e) = sym e
      heads (there i) (there j) = absurd (strict.irrefl x (strict.trans x y x (p y j) (q x i)))

      forth : (z : A) → x ≡ y → z ∈ xs → z ∈ ys
      forth z e i = go ((h z).0 (there i))
        where
          go : z ∈ (y ∷ ys) → z ∈ ys
          go (here f) = absurd (strict.irrefl x (subst (R x) (f ∙ sym e) (p z i)))
          go (there j) = j

      back : (z : A) → x ≡ y → z ∈ ys → z ∈ xs
      back z e i = go ((h z).1 (there i))
        where
          go : z ∈ (x ∷ xs) → z ∈ xs
          go (here f) = absurd (strict.irrefl y (subst (R y) (f ∙ e) (q z i)))
          go (there j) = j

  -- A set has at most one list.
  pub list_unique : {Q : A → Type 0} {xs ys : List A} → ListOf R Q xs → ListOf R Q ys → xs ≡ ys
  list_unique {xs} {ys} a b = in_order_unique xs ys a.ascending b.ascending (λ z. Iff.trans (a.members z) (Iff.symm (b.members z)))
