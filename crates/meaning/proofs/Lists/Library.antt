-- The library's tests on lists are this project's. Assumes nothing.
use borrow.Author.Tests.{eq-eqb, eqb-false, eqb-true, ne_eqb}
use lib.Dec.{eqb}
use lib.ListN.{length, take}
use mathlib.Core.Bool.{Bool, ◌&&◌, ◌||◌}
use mathlib.Core.List.{List, [], ◌∷◌}
use mathlib.Core.Path.{◌≡◌, refl, sym, ap, ap₂, ◌∙◌}
use Prim.Native.Nat.{ℕ}
use Rattle.meaning.proofs.Cases.{case_on}
use Rattle.meaning.specs.Tests.{any, begins, elem, every, same_text}
use Rattle.std.specs.List.{list_all, list_any, starts_with}
use lib.Pointwise.{pointwise}

module _ {A : Type 0} (p : A → Bool) where
  pub every_all : (xs : List A) → every p xs ≡ list_all p xs
  every_all [] = refl
  every_all (x ∷ xs) = ap (λ (b : Bool). p x && b) (every_all xs)

  pub any_any : (xs : List A) → any p xs ≡ list_any p xs
  any_any [] = refl
  any_any (x ∷ xs) = ap (λ (b : Bool). p x || b) (any_any xs)

-- `contains`
pub contains_elem : (x : ℕ) (xs : List ℕ) {r : Bool} → r ≡ list_any (λ y. eqb y x) xs → r ≡ elem x xs
contains_elem x xs e = e ∙ go xs
  where
    go : (xs : List ℕ) → list_any (λ y. eqb y x) xs ≡ elem x xs
    go [] = refl
    go (y ∷ ys) = ap₂ (λ (a b : Bool). a || b) (turned y) (go ys)
      where
        turned : (y : ℕ) → eqb y x ≡ eqb x y
        turned y = case_on (eqb x y) (λ q. eq-eqb y x (sym (eqb-true x y q)) ∙ sym q) (λ q. ne_eqb y x (λ k. eqb-false x y q (sym k)) ∙ sym q)

-- `==` of slices
pub equal_same : (xs ys : List ℕ) → pointwise eqb xs ys ≡ same_text xs ys
equal_same [] [] = refl
equal_same [] (y ∷ ys) = refl
equal_same (x ∷ xs) [] = refl
equal_same (x ∷ xs) (y ∷ ys) = ap (λ (b : Bool). eqb x y && b) (equal_same xs ys)

-- `starts_with`
pub starts_begins : (text prefix : List ℕ) {r : Bool} → r ≡ starts_with eqb text prefix → r ≡ begins prefix text
starts_begins text prefix e = e ∙ go prefix text
  where
    go : (p s : List ℕ) → pointwise eqb p (take (length p) s) ≡ begins p s
    go [] s = refl
    go (x ∷ p) [] = refl
    go (x ∷ p) (y ∷ s) = ap (λ (b : Bool). eqb x y && b) (go p s)
