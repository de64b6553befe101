-- Elements of lists by their places. Assumes nothing.
use lib.ListN.{drop, get_or, get_elem?, length, length-reverse, get_or-append, replicate, set, take, take-append-drop}
use lib.Seq.{get_or-append_seam}
use mathlib.Core.List.{List, [], ◌∷◌, ◌++◌, map, reverse, reverse-cons}
use mathlib.Core.Option.{none, some, none-ne-some, some-injective}
use mathlib.Core.Path.{◌≡◌, refl, sym, ap, ◌∙◌}
use native.Mathlib.Nat.{le_of_suc-le-suc, not-suc-le-zero}
use native.Mathlib.Omega.{arith}
use Prim.Native.Nat.{ℕ, zero, suc, ◌+◌, ◌-◌, ◌≤◌, ◌<◌, suc-le-suc, zero-le}
use Rattle.meaning.proofs.Cases.{case_lt}
use Rattle.meaning.proofs.Lists.Members.{element}
use Rattle.meaning.specs.Member.{◌∈◌, here, there}

module _ {A : Type 0} where
  -- a place that holds something is inside
  pub inside : (xs : List A) (i : ℕ) (x : A) → get_elem? xs i ≡ some x → i < length xs
  inside [] i x e = absurd (none-ne-some x e)
  inside (y ∷ ys) zero x e = suc-le-suc zero-le
  inside (y ∷ ys) (suc i) x e = suc-le-suc (inside ys i x e)

  -- and one that is inside holds something
  pub there_is : (xs : List A) (i : ℕ) → i < length xs → (x : A) × (get_elem? xs i ≡ some x)
  there_is [] i h = absurd (not-suc-le-zero h)
  there_is (x ∷ xs) zero h = (x, refl)
  there_is (x ∷ xs) (suc i) h = there_is xs i (le_of_suc-le-suc h)

  -- lists that hold the same at each place
  pub same_places : (xs ys : List A) → length xs ≡ length ys → ((i : ℕ) (x y : A) → get_elem? xs i ≡ some x → get_elem? ys i ≡ some y → x ≡ y) → xs ≡ ys
  same_places [] [] l h = refl
  same_places [] (y ∷ ys) l h = absurd (omega arith)
  same_places (x ∷ xs) [] l h = absurd (omega arith)
  same_places (x ∷ xs) (y ∷ ys) l h = λ j. h 0 x y refl refl j ∷ same_places xs ys (omega arith) (λ i. h (suc i)) j

  pub entry_is : (xs : List A) (i : ℕ) (x d : A) → get_elem? xs i ≡ some x → get_or xs i d ≡ x
  entry_is [] i x d e = absurd (none-ne-some x e)
  entry_is (y ∷ ys) zero x d e = some-injective y x e
  entry_is (y ∷ ys) (suc i) x d e = entry_is ys i x d e

  -- past the end there is nothing
  pub entry_none : (xs : List A) (i : ℕ) → length xs ≤ i → get_elem? xs i ≡ none
  entry_none [] i h = refl
  entry_none (x ∷ xs) zero h = absurd (not-suc-le-zero h)
  entry_none (x ∷ xs) (suc i) h = entry_none xs i (le_of_suc-le-suc h)

  -- a member has a place
  pub placed : {x : A} {xs : List A} → x ∈ xs → (i : ℕ) × (get_elem? xs i ≡ some x)
  placed (here e) = (0, ap some (sym e))
  placed (there m) = let r = placed m in (suc r.0, r.1)

  -- a place holds one thing
  pub same_at : (xs : List A) (i : ℕ) {x y : A} → get_elem? xs i ≡ some x → get_elem? xs i ≡ some y → x ≡ y
  same_at xs i {x} {y} p q = some-injective x y (sym p ∙ q)

  -- what stands behind another list
  pub at_later : (xs ys : List A) (i : ℕ) → get_elem? (xs ++ ys) (length xs + i) ≡ get_elem? ys i
  at_later [] ys i = ap (λ (x : ℕ). get_elem? ys x) (let e : 0 + i ≡ i = omega arith in e)
  at_later (x ∷ xs) ys i = let e : suc (length xs) + i ≡ suc (length xs + i) = omega arith in rw e (at_later xs ys i)

  -- a place of a list with one more is one of the list, or the last
  pub snoc_at : {Q : Type 0} (xs : List A) (a : A) (i : ℕ) (x : A) → get_elem? (xs ++ (a ∷ [])) i ≡ some x → (get_elem? xs i ≡ some x → Q) → (i ≡ length xs → a ≡ x → Q) → Q
  snoc_at [] a zero x e f g = g refl (some-injective a x e)
  snoc_at [] a (suc i) x e f g = absurd (none-ne-some x e)
  snoc_at (y ∷ ys) a zero x e f g = f e
  snoc_at (y ∷ ys) a (suc i) x e f g = snoc_at ys a i x e f (λ p q. g (ap suc p) q)

  -- the list from a place on begins with what is there
  pub drop_entry : (xs : List A) (i : ℕ) (x : A) → get_elem? xs i ≡ some x → drop i xs ≡ x ∷ drop (suc i) xs
  drop_entry [] i x e = absurd (none-ne-some x e)
  drop_entry (y ∷ xs) zero x e = ap (λ (z : A). z ∷ xs) (some-injective y x e)
  drop_entry (y ∷ xs) (suc i) x e = drop_entry xs i x e

  -- a list cut around an entry
  pub split_entry : (xs : List A) (j : ℕ) (y : A) → get_elem? xs j ≡ some y → xs ≡ take j xs ++ y ∷ drop (suc j) xs
  split_entry xs j y e = sym (take-append-drop j xs) ∙ ap (λ (r : List A). take j xs ++ r) (drop_entry xs j y e)

  pub take_entry : (xs : List A) (j : ℕ) (y : A) → get_elem? xs j ≡ some y → take (suc j) xs ≡ take j xs ++ y ∷ []
  take_entry [] j y e = absurd (let z : ◌≡◌ {A = ℕ} 0 1 = cc in omega arith)
  take_entry (x ∷ xs) zero y e = ap (λ z. z ∷ []) (some-injective _ _ e)
  take_entry (x ∷ xs) (suc j) y e = ap (λ z. x ∷ z) (take_entry xs j y e)

  pub slice_entry : (xs : List A) (i j : ℕ) (x : A) → i < j → get_elem? xs i ≡ some x → drop i (take j xs) ≡ x ∷ drop (suc i) (take j xs)
  slice_entry xs i zero x h e = absurd (not-suc-le-zero h)
  slice_entry [] i (suc j) x h e = absurd (let z : ◌≡◌ {A = ℕ} 0 1 = cc in omega arith)
  slice_entry (y ∷ xs) zero (suc j) x h e = ap (λ z. z ∷ take j xs) (some-injective _ _ e)
  slice_entry (y ∷ xs) (suc i) (suc j) x h e = slice_entry xs i j x (le_of_suc-le-suc h) e

pub entry_map : {A B : Type 0} (f : A → B) (l : List A) (i : ℕ) (x : A) → get_elem? l i ≡ some x → get_elem? (map f l) i ≡ some (f x)
entry_map f [] i x e = absurd (none-ne-some x e)
entry_map f (y ∷ l) zero x e = ap some (ap f (some-injective y x e))
entry_map f (y ∷ l) (suc i) x e = entry_map f l i x e

-- ---- numbers by their places

pub entry_at : (xs : List ℕ) (i : ℕ) → i < length xs → get_elem? xs i ≡ some (get_or xs i 0)
entry_at [] i h = absurd (not-suc-le-zero h)
entry_at (x ∷ xs) zero h = refl
entry_at (x ∷ xs) (suc i) h = entry_at xs i (le_of_suc-le-suc h)

pub ∈_at : (xs : List ℕ) (i : ℕ) → i < length xs → get_or xs i 0 ∈ xs
∈_at xs i h = element xs i (get_or xs i 0) (entry_at xs i h)

pub ∈_index : {x : ℕ} {xs : List ℕ} → x ∈ xs → (i : ℕ) × (i < length xs) × (get_or xs i 0 ≡ x)
∈_index (here e) = (0, suc-le-suc zero-le, sym e)
∈_index (there m) = let r = ∈_index m in (suc r.0, suc-le-suc r.1, r.2)

-- Within a list the default does not matter.
pub get_d_default : (l : List ℕ) (i d d' : ℕ) → i < length l → get_or l i d ≡ get_or l i d'
get_d_default [] i d d' h = absurd (omega arith)
get_d_default (x ∷ l) zero d d' h = refl
get_d_default (x ∷ l) (suc i) d d' h = get_d_default l i d d' (omega arith)

-- an entry written over itself
pub set_get_d : (l : List ℕ) (i d : ℕ) → set l i (get_or l i d) ≡ l
set_get_d [] i d = refl
set_get_d (x ∷ l) zero d = refl
set_get_d (x ∷ l) (suc i) d = ap (λ y. x ∷ y) (set_get_d l i d)

pub zeros_at : (n i : ℕ) → ◌≡◌ {A = ℕ} (get_or (replicate n 0) i 0) 0
zeros_at zero i = refl
zeros_at (suc n) zero = refl
zeros_at (suc n) (suc i) = zeros_at n i

-- a list backwards, read at a place
pub reverse_at : {A : Type 0} (xs : List A) (i : ℕ) (d : A) → i < length xs → get_or (reverse xs) i d ≡ get_or xs (length xs - 1 - i) d
reverse_at [] i d h = absurd (not-suc-le-zero h)
reverse_at (x ∷ xs) i d h = ap (λ l. get_or l i d) (reverse-cons x xs) ∙ case_lt i (length xs) (λ l. earlier l (reverse_at xs i d l)) last
  where
    earlier : i < length xs → get_or (reverse xs) i d ≡ get_or xs (length xs - 1 - i) d → get_or (reverse xs ++ (x ∷ [])) i d ≡ get_or (x ∷ xs) (suc (length xs) - 1 - i) d
    earlier l h =
        let e : suc (length xs) - 1 - i ≡ suc (length xs - 1 - i) = omega arith in
        get_or-append (reverse xs) (x ∷ []) d i (rw (length-reverse xs) l) ∙ h ∙ ap (λ k. get_or (x ∷ xs) k d) (sym e)

    last : length xs ≤ i → get_or (reverse xs ++ (x ∷ [])) i d ≡ get_or (x ∷ xs) (suc (length xs) - 1 - i) d
    last l =
        let e : i ≡ length (reverse xs) = omega (arith, length-reverse xs) in
        let z : suc (length xs) - 1 - i ≡ 0 = omega arith in
        ap (λ k. get_or (reverse xs ++ (x ∷ [])) k d) e ∙ get_or-append_seam (reverse xs) x [] d ∙ ap (λ k. get_or (x ∷ xs) k d) (sym z)
