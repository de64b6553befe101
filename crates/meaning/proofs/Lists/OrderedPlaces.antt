-- The places of a list in order: each element has one, and an earlier place has a lower element. Assumes nothing.
use lib.ListN.{get_or, get_elem?, length}
use mathlib.Core.List.{List, [], ◌∷◌}
use mathlib.Core.Option.{some, none-ne-some, some-injective}
use mathlib.Core.Path.{◌≡◌, refl, ap, subst}
use native.Mathlib.Decide.{dec_lt, ℕ_discrete}
use native.Mathlib.Omega.{arith}
use Prim.Native.Nat.{ℕ, zero, suc, ◌≤◌, ◌<◌}
use Rattle.meaning.proofs.Lists.Members.{element}
use Rattle.meaning.proofs.Lists.Ordered.{Strict}
use Rattle.meaning.proofs.Lists.Places.{entry_at}
use Rattle.meaning.specs.Ordered.{InOrder, before}
use Rattle.meaning.specs.Member.{here, there, ◌∈◌}

module _ {A : Type 0} {R : A → A → Type 0} where
  pub one_place : Strict R → (xs : List A) → InOrder R xs → (b : A) (n m : ℕ) → get_elem? xs n ≡ some b → get_elem? xs m ≡ some b → n ≡ m
  one_place strict [] o b n m p q = absurd (none-ne-some b p)
  one_place strict (x ∷ xs) (before f o) b zero zero p q = refl
  one_place strict (x ∷ xs) (before f o) b zero (suc m) p q =
      absurd (strict.irrefl b (subst (λ y. R y b) (some-injective x b p) (f b (element xs m b q))))
  one_place strict (x ∷ xs) (before f o) b (suc n) zero p q =
      absurd (strict.irrefl b (subst (λ y. R y b) (some-injective x b q) (f b (element xs n b p))))
  one_place strict (x ∷ xs) (before f o) b (suc n) (suc m) p q = ap suc (one_place strict xs o b n m p q)

  pub in_order_at : (xs : List A) → InOrder R xs → (x y : A) (n m : ℕ) → n < m → get_elem? xs n ≡ some x → get_elem? xs m ≡ some y → R x y
  in_order_at [] o x y n m l p q = absurd (none-ne-some x p)
  in_order_at (z ∷ zs) o x y n zero l p q = absurd (omega arith)
  in_order_at (z ∷ zs) (before f o) x y zero (suc m) l p q = subst (λ w. R w y) (some-injective z x p) (f y (element zs m y q))
  in_order_at (z ∷ zs) (before f o) x y (suc n) (suc m) l p q = in_order_at zs o x y n m (omega arith) p q

-- ---- lists of numbers

pub greater_later : (xs : List ℕ) → InOrder ◌<◌ xs → (i j : ℕ) → i < j → j < length xs → get_or xs i 0 < get_or xs j 0
greater_later xs a i j h l = in_order_at xs a (get_or xs i 0) (get_or xs j 0) i j h (entry_at xs i (omega arith)) (entry_at xs j l)

-- a lower number stands at an earlier place
pub lower_earlier : (xs : List ℕ) → InOrder ◌<◌ xs → (i j : ℕ) → i < length xs → get_or xs i 0 < get_or xs j 0 → i < j
lower_earlier xs a i j l h = go (dec_lt i j) (ℕ_discrete i j)
  where
    go : Dec (i < j) → Dec (i ≡ j) → i < j
    go (yes k) e = k
    go (no n) (yes e) = absurd (let q = ap (λ (k : ℕ). get_or xs k 0) e in let z : ⊥ = omega arith in z)
    go (no n) (no m) = absurd (let k = greater_later xs a j i (omega arith) l in let z : ⊥ = omega arith in z)

-- in an ascending list, the one after x stands no later than any greater one
pub next_le : (xs : List ℕ) → InOrder ◌<◌ xs → (i x y : ℕ) → get_elem? xs i ≡ some x → y ∈ xs → x < y → (suc i < length xs) × (x < get_or xs (suc i) 0) × (get_or xs (suc i) 0 ≤ y)
next_le [] a i x y e m l = absurd (none-ne-some x e)
next_le (z ∷ zs) (before f a) zero x y e (here q) l = absurd (let r = some-injective z x e in let w : ⊥ = omega arith in w)
next_le (z ∷ zs) (before f a) zero x y e (there m) l = first zs a m f
  where
    first : (ws : List ℕ) → InOrder ◌<◌ ws → y ∈ ws → ((w : ℕ) → w ∈ ws → z < w) → (suc 0 < suc (length ws)) × (x < get_or ws 0 0) × (get_or ws 0 0 ≤ y)
    first [] b x16 g = elim x16 [ ]
    first (w ∷ ws) b (here q) g = let r = some-injective z x e in (omega arith, omega arith, omega arith)
    first (w ∷ ws) (before p b) (there n) g = let r = some-injective z x e in let h = g w (here refl) in let k = p y n in (omega arith, omega arith, omega arith)
next_le (z ∷ zs) (before f a) (suc i) x y e (here q) l = absurd (let h = f x (element zs i x e) in let w : ⊥ = omega arith in w)
next_le (z ∷ zs) (before f a) (suc i) x y e (there m) l = let r = next_le zs a i x y e m l in (let h = r.0 in omega arith, r.1, r.2)
