-- Sorting by a key, once for each element: the ascending list of a list's elements. Assumes nothing.
use mathlib.Core.List.{List, [], ◌∷◌}
use mathlib.Core.Logic.{◌⊎◌, ◌↔◌, inl, inr}
use mathlib.Core.Path.{◌≡◌, refl, sym, ◌∙◌, subst}
use native.Mathlib.Decide.{ℕ_discrete, dec_lt}
use native.Mathlib.Omega.{arith}
use Prim.Native.Nat.{ℕ, ◌<◌}
use Rattle.meaning.proofs.Lists.Ordered.{≺_trans}
use Rattle.meaning.specs.Member.{◌∈◌, here, there}
use Rattle.meaning.specs.Ordered.{InOrder, ◌≺◌, before, empty, equal, less, shorter}

-- ---- two keys compared

pub data Compared (xs ys : List ℕ) : Type 0 where
  lower : xs ≺ ys → Compared xs ys
  alike : xs ≡ ys → Compared xs ys
  higher : ys ≺ xs → Compared xs ys

unfoldable pub compare_heads : (x y : ℕ) (xs ys : List ℕ) → Dec (x < y) → Dec (x ≡ y) → Compared xs ys → Compared (x ∷ xs) (y ∷ ys)
compare_heads x y xs ys (yes h) e c = lower (less h)
compare_heads x y xs ys (no n) (yes e) (lower h) = lower (equal e h)
compare_heads x y xs ys (no n) (yes e) (alike f) = alike (λ i. e i ∷ f i)
compare_heads x y xs ys (no n) (yes e) (higher h) = higher (equal (sym e) h)
compare_heads x y xs ys (no n) (no d) c = higher (less {x = y} {y = x} (omega arith))

unfoldable pub compare : (xs ys : List ℕ) → Compared xs ys
unfolding compare_heads dec_lt ℕ_discrete
compare [] [] = alike refl
compare [] (y ∷ ys) = lower shorter
compare (x ∷ xs) [] = higher shorter
compare (x ∷ xs) (y ∷ ys) = compare_heads x y xs ys (dec_lt x y) (ℕ_discrete x y) (compare xs ys)

-- ---- insertion

module _ {A : Type 0} (key : A → List ℕ) where
  unfoldable pub place : (x y : A) (ys rest : List A) → Compared (key x) (key y) → List A
  place x y ys rest (lower h) = x ∷ y ∷ ys
  place x y ys rest (alike e) = y ∷ ys
  place x y ys rest (higher h) = y ∷ rest

  unfoldable pub insert : A → List A → List A
  unfolding compare place
  insert x [] = x ∷ []
  insert x (y ∷ ys) = place x y ys (insert x ys) (compare (key x) (key y))

  unfoldable pub sorted : List A → List A
  unfolding insert
  sorted [] = []
  sorted (x ∷ xs) = insert x (sorted xs)

  module _ (one : (x y : A) → key x ≡ key y → x ≡ y) where
    insert_iff : (x : A) (ys : List A) (z : A) → (z ∈ insert x ys) ↔ ((z ≡ x) ⊎ (z ∈ ys))
    unfolding insert place
    insert_iff x [] z = (forth, back)
      where
        forth : z ∈ (x ∷ []) → (z ≡ x) ⊎ (z ∈ [])
        forth (here e) = inl e
        forth (there i) = elim i [ ]

        back : (z ≡ x) ⊎ (z ∈ []) → z ∈ (x ∷ [])
        back (inl e) = here e
        back (inr i) = elim i [ ]
    insert_iff x (y ∷ ys) z = go (compare (key x) (key y)) (insert_iff x ys z)
      where
        go : (c : Compared (key x) (key y)) → (z ∈ insert x ys) ↔ ((z ≡ x) ⊎ (z ∈ ys)) → (z ∈ place x y ys (insert x ys) c) ↔ ((z ≡ x) ⊎ (z ∈ (y ∷ ys)))
        go (lower h) rest = (forth, back)
          where
            forth : z ∈ (x ∷ y ∷ ys) → (z ≡ x) ⊎ (z ∈ (y ∷ ys))
            forth (here e) = inl e
            forth (there i) = inr i

            back : (z ≡ x) ⊎ (z ∈ (y ∷ ys)) → z ∈ (x ∷ y ∷ ys)
            back (inl e) = here e
            back (inr i) = there i
        go (alike e) rest = (λ i. inr i, back)
          where
            back : (z ≡ x) ⊎ (z ∈ (y ∷ ys)) → z ∈ (y ∷ ys)
            back (inl f) = here (f ∙ one x y e)
            back (inr i) = i
        go (higher h) rest = (forth, back)
          where
            move : (z ≡ x) ⊎ (z ∈ ys) → (z ≡ x) ⊎ (z ∈ (y ∷ ys))
            move (inl f) = inl f
            move (inr j) = inr (there j)

            forth : z ∈ (y ∷ insert x ys) → (z ≡ x) ⊎ (z ∈ (y ∷ ys))
            forth (here e) = inr (here e)
            forth (there i) = move (rest.0 i)

            back : (z ≡ x) ⊎ (z ∈ (y ∷ ys)) → z ∈ (y ∷ insert x ys)
            back (inl e) = there (rest.1 (inl e))
            back (inr (here e)) = here e
            back (inr (there i)) = there (rest.1 (inr i))

    insert_ascending : (x : A) (ys : List A) → InOrder (λ x y. key x ≺ key y) ys → InOrder (λ x y. key x ≺ key y) (insert x ys)
    unfolding insert place
    insert_ascending x [] a = before {x = x} {xs = []} (λ y i. elim i [ ]) empty
    insert_ascending x (y ∷ ys) (before p a) = go (compare (key x) (key y)) (insert_ascending x ys a)
      where
        go : (c : Compared (key x) (key y)) → InOrder (λ x y. key x ≺ key y) (insert x ys) → InOrder (λ x y. key x ≺ key y) (place x y ys (insert x ys) c)
        go (lower h) rest = before first (before p a)
          where
            first : (z : A) → z ∈ (y ∷ ys) → key x ≺ key z
            first z (here e) = subst (λ w. key x ≺ key w) (sym e) h
            first z (there i) = ≺_trans h (p z i)
        go (alike e) rest = before p a
        go (higher h) rest = before (λ z i. after z ((insert_iff x ys z).0 i)) rest
          where
            after : (z : A) → (z ≡ x) ⊎ (z ∈ ys) → key y ≺ key z
            after z (inl e) = subst (λ w. key y ≺ key w) (sym e) h
            after z (inr i) = p z i

    pub sorted_iff : (xs : List A) (z : A) → (z ∈ sorted xs) ↔ (z ∈ xs)
    unfolding sorted
    sorted_iff [] z = (λ i. i, λ i. i)
    sorted_iff (x ∷ xs) z = (λ i. forth ((insert_iff x (sorted xs) z).0 i) (sorted_iff xs z).0, λ i. (insert_iff x (sorted xs) z).1 (back i (sorted_iff xs z).1))
      where
        forth : (z ≡ x) ⊎ (z ∈ sorted xs) → (z ∈ sorted xs → z ∈ xs) → z ∈ (x ∷ xs)
        forth (inl e) f = here e
        forth (inr i) f = there (f i)

        back : z ∈ (x ∷ xs) → (z ∈ xs → z ∈ sorted xs) → (z ≡ x) ⊎ (z ∈ sorted xs)
        back (here e) f = inl e
        back (there i) f = inr (f i)

    pub sorted_ascending : (xs : List A) → InOrder (λ x y. key x ≺ key y) (sorted xs)
    unfolding sorted
    sorted_ascending [] = empty
    sorted_ascending (x ∷ xs) = insert_ascending x (sorted xs) (sorted_ascending xs)
