-- Laws of the pairs of a list: of one that grows at its end, of one in which no two pass a test. Assumes nothing.
use lib.ListN.{get_or, length}
use mathlib.Core.Bool.{Bool, true, false, ◌||◌, true≢false}
use mathlib.Core.List.{List, [], ◌∷◌, ◌++◌}
use mathlib.Core.Path.{◌≡◌, refl, sym, ap, ◌∙◌}
use native.Mathlib.Nat.{le_of_suc-le-suc, not-suc-le-zero}
use native.Mathlib.Omega.{arith}
use Prim.Native.Nat.{ℕ, zero, suc, ◌<◌}
use Rattle.meaning.proofs.Cases.{or_neither}
use Rattle.meaning.specs.Tests.{any, any_two}

or_right : (a : Bool) → (a || true) ≡ true
or_right true = refl
or_right false = refl

module _ {A : Type 0} (f : A → A → Bool) where
  any_at : (g : A → Bool) (xs : List A) (y : A) (zs : List A) → g y ≡ true → any g (xs ++ y ∷ zs) ≡ true
  any_at g [] y zs e = rw e
  any_at g (x ∷ xs) y zs e = rw (any_at g xs y zs e) (or_right (g x))

  any_none : (g : A → Bool) (xs : List A) (y : A) → g y ≡ false → any g xs ≡ false → any g (xs ++ y ∷ []) ≡ false
  any_none g [] y e h = rw e
  any_none g (x ∷ xs) y e h = go (g x) refl (any_none g xs y e)
    where
      go : (b : Bool) → g x ≡ b → (any g xs ≡ false → any g (xs ++ y ∷ []) ≡ false) → any g ((x ∷ xs) ++ y ∷ []) ≡ false
      go true q ih = absurd (let k : true ≡ false = rw q at h in let z : ◌≡◌ {A = ℕ} 0 1 = cc in omega arith)
      go false q ih = rw q (ih (rw q at h))

  pub two_at : (xs : List A) (y : A) (zs : List A) → any (λ x. f x y) xs ≡ true → any_two f (xs ++ y ∷ zs) ≡ true
  two_at [] y zs e = absurd (let z : ◌≡◌ {A = ℕ} 0 1 = cc in omega arith)
  two_at (x ∷ xs) y zs e = go (f x y) refl (two_at xs y zs)
    where
      go : (b : Bool) → f x y ≡ b → (any (λ z. f z y) xs ≡ true → any_two f (xs ++ y ∷ zs) ≡ true) → any_two f ((x ∷ xs) ++ y ∷ zs) ≡ true
      go true q ih = rw (any_at (f x) xs y zs q)
      go false q ih = rw (ih (rw q at e)) (or_right (any (f x) (xs ++ y ∷ zs)))

  pub two_none : (xs : List A) (y : A) → any_two f xs ≡ false → any (λ x. f x y) xs ≡ false → any_two f (xs ++ y ∷ []) ≡ false
  two_none [] y e h = refl
  two_none (x ∷ xs) y e h = go (any (f x) xs) (f x y) refl refl (two_none xs y)
    where
      go : (a b : Bool) → any (f x) xs ≡ a → f x y ≡ b → (any_two f xs ≡ false → any (λ z. f z y) xs ≡ false → any_two f (xs ++ y ∷ []) ≡ false)
          → any_two f ((x ∷ xs) ++ y ∷ []) ≡ false
      go true b p q ih = absurd (let k : true ≡ false = rw p at e in let z : ◌≡◌ {A = ℕ} 0 1 = cc in omega arith)
      go false true p q ih = absurd (let k : true ≡ false = rw q at h in let z : ◌≡◌ {A = ℕ} 0 1 = cc in omega arith)
      go false false p q ih = rw (any_none (f x) xs y q p) (ih (rw p at e) (rw q at h))

-- ---- lists in which no two entries pass a test

module _ {A : Type 0} (f : A → A → Bool) (d : A) where
  none_passes : (x : A) (xs : List A) (j : ℕ) → any (f x) xs ≡ false → j < length xs → f x (get_or xs j d) ≡ false
  none_passes x [] j h l = absurd (not-suc-le-zero l)
  none_passes x (y ∷ xs) zero h l = (or_neither (f x y) (any (f x) xs) h).0
  none_passes x (y ∷ xs) (suc j) h l = none_passes x xs j (or_neither (f x y) (any (f x) xs) h).1 (le_of_suc-le-suc l)

  -- entries that pass it both ways stand at one place
  pub no_two_place : (xs : List A) (i j : ℕ) → any_two f xs ≡ false → i < length xs → j < length xs
      → f (get_or xs i d) (get_or xs j d) ≡ true → f (get_or xs j d) (get_or xs i d) ≡ true → i ≡ j
  no_two_place [] i j h li lj t u = absurd (not-suc-le-zero li)
  no_two_place (x ∷ xs) zero zero h li lj t u = refl
  no_two_place (x ∷ xs) zero (suc j) h li lj t u =
      absurd (true≢false (sym t ∙ none_passes x xs j (or_neither (any (f x) xs) (any_two f xs) h).0 (le_of_suc-le-suc lj)))
  no_two_place (x ∷ xs) (suc i) zero h li lj t u =
      absurd (true≢false (sym u ∙ none_passes x xs i (or_neither (any (f x) xs) (any_two f xs) h).0 (le_of_suc-le-suc li)))
  no_two_place (x ∷ xs) (suc i) (suc j) h li lj t u =
      ap suc (no_two_place xs i j (or_neither (any (f x) xs) (any_two f xs) h).1 (le_of_suc-le-suc li) (le_of_suc-le-suc lj) t u)
