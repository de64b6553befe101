-- Laws of the tests on texts: equal texts, beginnings of texts. Assumes nothing.
use borrow.Author.Tests.{eqb-true, eq-eqb}
use lib.Dec.{eqb}
use lib.ListN.{drop, get_or, length}
use mathlib.Core.Bool.{true, ◌||◌, false≢true, Bool, ◌&&◌, false}
use mathlib.Core.List.{[], ◌∷◌, ◌++◌, head-eq_of_cons-eq, tail-eq_of_cons-eq, List}
use mathlib.Core.Path.{◌≡◌, refl, sym, ap}
use Rattle.meaning.specs.Pack.{Text}
use Rattle.meaning.specs.Tests.{same_text, begins}
use Rattle.meaning.proofs.Cases.{and_both}
use native.Mathlib.Nat.{le_of_suc-le-suc, not-suc-le-zero}
use native.Mathlib.Omega.{arith}
use Prim.Native.Nat.{suc, zero, ℕ, ◌<◌}

-- ---- equal texts

pub same_refl : (s : Text) → same_text s s ≡ true
same_refl [] = refl
same_refl (x ∷ s) = rw (eq-eqb x x refl) (same_refl s)

pub same_eq : (s t : Text) → same_text s t ≡ true → s ≡ t
same_eq [] [] h = refl
same_eq [] (y ∷ t) h = absurd (false≢true h)
same_eq (x ∷ s) [] h = absurd (false≢true h)
same_eq (x ∷ s) (y ∷ t) h =
    let k = and_both (eqb x y) (same_text s t) h in
    let e = eqb-true x y k.0 in
    let r = same_eq s t k.1 in
    λ i. e i ∷ r i

pub eq_same : {s t : Text} → s ≡ t → same_text s t ≡ true
eq_same {s} e = rw (← e) (same_refl s)

-- ---- beginnings

pub begins_append : (p s : Text) → begins p (p ++ s) ≡ true
begins_append [] s = refl
begins_append (x ∷ p) s = rw (eq-eqb x x refl) (begins_append p s)

pub begins_rest : (p s : Text) → begins p s ≡ true → p ++ drop (length p) s ≡ s
begins_rest [] s h = refl
begins_rest (x ∷ p) [] h = absurd (false≢true h)
begins_rest (x ∷ p) (y ∷ s) h =
    let k = and_both (eqb x y) (begins p s) h in
    let e = eqb-true x y k.0 in
    let r = begins_rest p s k.1 in
    λ i. e i ∷ r i

-- of two beginnings of one text, one begins the other
pub begins_both : (p q s t : Text) → p ++ s ≡ q ++ t → (begins p q || begins q p) ≡ true
begins_both [] q s t h = refl
begins_both (x ∷ p) [] s t h = refl
begins_both (x ∷ p) (y ∷ q) s t h =
    let e = head-eq_of_cons-eq h in
    rw (eq-eqb x y e, eq-eqb y x (sym e)) (begins_both p q s t (tail-eq_of_cons-eq h))

-- ---- by their lengths, and number by number

pub begins_long : (xs ys : List ℕ) → length ys < length xs → false ≡ begins xs ys
begins_long [] ys h = absurd (not-suc-le-zero h)
begins_long (x ∷ xs) [] h = refl
begins_long (x ∷ xs) (y ∷ ys) h = go (eqb x y) (begins_long xs ys (le_of_suc-le-suc h))
  where
    go : (b : Bool) → false ≡ begins xs ys → false ≡ (b && begins xs ys)
    go true e = e
    go false e = refl

pub same_begins : (xs ys : List ℕ) → length xs ≡ length ys → begins xs ys ≡ same_text xs ys
same_begins [] [] e = refl
same_begins [] (y ∷ ys) e = absurd (omega arith)
same_begins (x ∷ xs) [] e = absurd (omega arith)
same_begins (x ∷ xs) (y ∷ ys) e = ap (λ (b : Bool). eqb x y && b) (same_begins xs ys (omega arith))

pub same_long : (xs ys : List ℕ) → (length xs ≡ length ys → ⊥) → false ≡ same_text xs ys
same_long [] [] h = absurd (h refl)
same_long [] (y ∷ ys) h = refl
same_long (x ∷ xs) [] h = refl
same_long (x ∷ xs) (y ∷ ys) h = go (eqb x y) (same_long xs ys (λ e. h (ap suc e)))
  where
    go : (b : Bool) → false ≡ same_text xs ys → false ≡ (b && same_text xs ys)
    go true e = e
    go false e = refl

pub same_byte : (xs ys : List ℕ) (k : ℕ) → true ≡ same_text xs ys → get_or xs k 0 ≡ get_or ys k 0
same_byte [] [] k e = refl
same_byte [] (y ∷ ys) k e = absurd (let z : ◌≡◌ {A = ℕ} 0 1 = cc in omega arith)
same_byte (x ∷ xs) [] k e = absurd (let z : ◌≡◌ {A = ℕ} 0 1 = cc in omega arith)
same_byte (x ∷ xs) (y ∷ ys) zero e = eqb-true x y (and_both (eqb x y) (same_text xs ys) (sym e)).0
same_byte (x ∷ xs) (y ∷ ys) (suc k) e = same_byte xs ys k (sym (and_both (eqb x y) (same_text xs ys) (sym e)).1)
