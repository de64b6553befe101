-- Laws of membership, and list functions that compute, each with the law that says what is in its result. Assumes nothing.
use lib.Dec.{T}
use lib.ListN.{get_or, get_elem?, length, take}
use lib.Seq.{take-suc}
use mathlib.Core.Bool.{Bool, true, false, ◌&&◌, ◌||◌, and_assoc}
use mathlib.Core.List.Memᴰ
use mathlib.Core.List.{
  List,
  [],
  ◌∷◌,
  ◌++◌,
  map,
  flat_map,
  reverse,
  reverse-cons,
  filter_map,
  filter_map-cons-none,
  filter_map-cons-some,
}
use mathlib.Core.Logic.{◌⊎◌, ◌↔◌, inl, inr}
use mathlib.Core.Option.{Option, none, some, none-ne-some, some-injective}
use mathlib.Core.Path.{◌≡◌, refl, sym, ap, ap₂, ◌∙◌, subst}
use native.Mathlib.Decide.{ℕ_discrete}
use native.Mathlib.Nat.{not-suc-le-zero}
use native.Mathlib.Numerals.{add-one}
use native.Mathlib.Omega.{arith}
use Prim.Native.Nat.{ℕ, zero, suc, ◌+◌, ◌<◌}
use Rattle.meaning.specs.Member.{◌∈◌, here, there}
use Rattle.meaning.specs.Tests.{any, every}

-- ---- tests

unfoldable pub T? : (b : Bool) → Dec (T b)
T? true = yes tt
T? false = no (λ h. h)

-- a conjunction of tests, split
pub both : (x y : Bool) → T (x && y) ↔ (T x × T y)
both true y = (λ h. (tt, h), λ h. h.1)
both false y = (λ h. absurd h, λ h. h.0)

module _ {A : Type 0} where
  -- an element that passes a decided test, or a proof that none does
  unfoldable pub find : {Q : A → Type 0} → ((x : A) → Dec (Q x)) → (xs : List A) → ((x : A) × (x ∈ xs) × Q x) ⊎ ((x : A) → x ∈ xs → ¬ Q x)
  find d [] = inr (λ x h. elim h [ ])
  find {Q} d (y ∷ ys) = step (d y) (find d ys)
    where
      step : Dec (Q y) → ((x : A) × (x ∈ ys) × Q x) ⊎ ((x : A) → x ∈ ys → ¬ Q x)
          → ((x : A) × (x ∈ (y ∷ ys)) × Q x) ⊎ ((x : A) → x ∈ (y ∷ ys) → ¬ Q x)
      step (yes q) rest = inl (y, here refl, q)
      step (no n) (inl f) = inl (f.0, there f.1, f.2)
      step (no n) (inr g) = inr none_here
        where
          none_here : (x : A) → x ∈ (y ∷ ys) → ¬ Q x
          none_here x (here e) q = n (subst Q e q)
          none_here x (there h) q = g x h q

module _ {A B : Type 0} (f : A → B) where
  pub ∈_map⁻¹ : {b : B} (xs : List A) → b ∈ map f xs → (x : A) × (x ∈ xs) × (b ≡ f x)
  ∈_map⁻¹ xs h = let r = Memᴰ.of_map f xs h in (r.0, r.1, sym r.2)

module _ {A : Type 0} where
  pub ∈_append : {x : A} (xs ys : List A) → (x ∈ xs) ⊎ (x ∈ ys) → x ∈ (xs ++ ys)
  ∈_append xs ys (inl h) = Memᴰ.append_left ys h
  ∈_append xs ys (inr h) = Memᴰ.append_right xs h

  -- a list that only begins has nothing
  pub only_new : {B : Type 0} {x : A} → (x ∈ []) ⊎ B → B
  only_new (inl m) = elim m [ ]
  only_new (inr b) = b

  pub element : (xs : List A) (i : ℕ) (x : A) → get_elem? xs i ≡ some x → x ∈ xs
  element [] i x e = absurd (none-ne-some x e)
  element (y ∷ ys) zero x e = here (sym (some-injective y x e))
  element (y ∷ ys) (suc i) x e = there (element ys i x e)

  pub nil_not_cons : (y : A) (ys : List A) → [] ≡ y ∷ ys → ⊥
  nil_not_cons y ys e = let z : ◌≡◌ {A = ℕ} 0 1 = cc in omega arith

  unfoldable pub both_same : (x y : A) (xs ys : List A) → Dec (x ≡ y) → Dec (xs ≡ ys) → Dec (x ∷ xs ≡ y ∷ ys)
  both_same x y xs ys (yes e) (yes f) = yes (λ i. e i ∷ f i)
  both_same x y xs ys (yes e) (no n) = no (λ q. n (cc))
  both_same x y xs ys (no n) f = no (λ q. n (cc))

  unfoldable pub ∈_dec : Discrete A → (x : A) (xs : List A) → Dec (x ∈ xs)
  ∈_dec d x [] = no (λ h. elim h [ ])
  ∈_dec d x (y ∷ ys) = go (d x y) (∈_dec d x ys)
    where
      neither : ¬ (x ≡ y) → ¬ (x ∈ ys) → ¬ (x ∈ (y ∷ ys))
      neither n m (here e) = n e
      neither n m (there h) = m h

      go : Dec (x ≡ y) → Dec (x ∈ ys) → Dec (x ∈ (y ∷ ys))
      go (yes e) r = yes (here e)
      go (no n) (yes h) = yes (there h)
      go (no n) (no m) = no (neither n m)

  -- lists are compared element by element
  unfoldable pub same_list : Discrete A → Discrete (List A)
  unfolding both_same
  same_list d [] [] = yes refl
  same_list d [] (y ∷ ys) = no (λ e. nil_not_cons y ys e)
  same_list d (x ∷ xs) [] = no (λ e. nil_not_cons x xs (sym e))
  same_list d (x ∷ xs) (y ∷ ys) = both_same x y xs ys (d x y) (same_list d xs ys)

  -- ---- the tests of `specs/Tests.antt`

  pub any_in : (f : A → Bool) {x : A} {xs : List A} → x ∈ xs → T (f x) → T (any f xs)
  any_in f {x} (here {x = y} {xs = ys} e) t = left (f y) (any f ys) (subst (λ z. T (f z)) e t)
    where
      left : (a b : Bool) → T a → T (a || b)
      left true b h = tt
      left false b h = absurd h
  any_in f (there {x = y} {xs = ys} h) t = right (f y) (any f ys) (any_in f h t)
    where
      right : (a b : Bool) → T b → T (a || b)
      right true b h = tt
      right false b h = h

  pub any_only : (f : A → Bool) (xs : List A) → T (any f xs) → (x : A) × (x ∈ xs) × T (f x)
  any_only f [] t = absurd t
  any_only f (y ∷ ys) t = go (f y) refl t (any_only f ys)
    where
      go : (b : Bool) → f y ≡ b → T (b || any f ys) → (T (any f ys) → (x : A) × (x ∈ ys) × T (f x)) → (x : A) × (x ∈ (y ∷ ys)) × T (f x)
      go true e t rest = (y, here refl, subst T (sym e) tt)
      go false e t rest = let r = rest t in (r.0, there r.1, r.2)

  pub every_at : (f : A → Bool) (xs : List A) → T (every f xs) → {x : A} → x ∈ xs → T (f x)
  every_at f [] t h = elim h [ ]
  every_at f (y ∷ ys) t (here e) = subst (λ z. T (f z)) (sym e) ((both (f y) (every f ys)).0 t).0
  every_at f (y ∷ ys) t (there h) = every_at f ys ((both (f y) (every f ys)).0 t).1 h

  pub every_append : (f : A → Bool) (xs ys : List A) → every f (xs ++ ys) ≡ (every f xs && every f ys)
  every_append f [] ys = refl
  every_append f (x ∷ xs) ys = ap (λ (b : Bool). f x && b) (every_append f xs ys) ∙ sym (and_assoc (f x) (every f xs) (every f ys))

  -- the elements that pass a decided test
  module _ {Q : A → Type 0} (d : (x : A) → Dec (Q x)) where
    unfoldable pub keep : (x : A) → Dec (Q x) → List A → List A
    keep x (yes q) l = x ∷ l
    keep x (no n) l = l

    unfoldable pub selected : List A → List A
    unfolding keep
    selected [] = []
    selected (x ∷ xs) = keep x (d x) (selected xs)

    pub selected_in : {x : A} {xs : List A} → x ∈ xs → Q x → x ∈ selected xs
    unfolding selected keep
    selected_in {x} (here {x = y} {xs = ys} e) q = go (d y)
      where
        go : (r : Dec (Q y)) → x ∈ keep y r (selected ys)
        go (yes h) = here e
        go (no n) = absurd (n (subst Q e q))
    selected_in {x} (there {x = y} {xs = ys} h) q = go (d y) (selected_in h q)
      where
        go : (r : Dec (Q y)) → x ∈ selected ys → x ∈ keep y r (selected ys)
        go (yes q') i = there i
        go (no n) i = i

    pub selected_only : {x : A} (xs : List A) → x ∈ selected xs → (x ∈ xs) × Q x
    unfolding selected keep
    selected_only [] h = elim h [ ]
    selected_only {x} (y ∷ ys) h = go (d y) h (selected_only ys)
      where
        go : (r : Dec (Q y)) → x ∈ keep y r (selected ys) → (x ∈ selected ys → (x ∈ ys) × Q x) → (x ∈ (y ∷ ys)) × Q x
        go (yes q) (here e) rest = (here e, subst Q (sym e) q)
        go (yes q) (there i) rest = let r = rest i in (there r.0, r.1)
        go (no n) i rest = let r = rest i in (there r.0, r.1)

-- a value where a test passes
unfoldable pub only_if : {Q A : Type 0} → Dec Q → A → Option A
only_if (yes q) x = some x
only_if (no n) x = none

pub only_if_some : {Q A : Type 0} (d : Dec Q) (x y : A) → only_if d x ≡ some y → Q × (x ≡ y)
unfolding only_if
only_if_some (yes q) x y e = (q, some-injective x y e)
only_if_some (no n) x y e = absurd (none-ne-some y e)

pub some_only_if : {Q A : Type 0} (d : Dec Q) (x : A) → Q → only_if d x ≡ some x
unfolding only_if
some_only_if (yes q) x h = refl
some_only_if (no n) x h = absurd (n h)

-- what a partial function gives on a list
module _ {A B : Type 0} (f : A → Option B) where
  pub collect_in : {x : A} {xs : List A} {b : B} → x ∈ xs → f x ≡ some b → b ∈ filter_map f xs
  collect_in {b} (here {x = y} {xs = ys} e) q = subst (λ l. b ∈ l) (sym (filter_map-cons-some f y ys (ap f (sym e) ∙ q))) (here refl)
  collect_in {b} (there {x = y} {xs = ys} h) q = go (f y) refl (collect_in h q)
    where
      go : (o : Option B) → f y ≡ o → b ∈ filter_map f ys → b ∈ filter_map f (y ∷ ys)
      go none e i = subst (λ l. b ∈ l) (sym (filter_map-cons-none f y ys e)) i
      go (some c) e i = subst (λ l. b ∈ l) (sym (filter_map-cons-some f y ys e)) (there i)

  pub collect_only : {b : B} (xs : List A) → b ∈ filter_map f xs → (x : A) × (x ∈ xs) × (f x ≡ some b)
  unfolding filter_map
  collect_only [] h = elim h [ ]
  collect_only {b} (y ∷ ys) h = go (f y) refl h (collect_only ys)
    where
      later : (b ∈ filter_map f ys → (x : A) × (x ∈ ys) × (f x ≡ some b)) → b ∈ filter_map f ys → (x : A) × (x ∈ (y ∷ ys)) × (f x ≡ some b)
      later rest i = let r = rest i in (r.0, there r.1, r.2)

      first : (c : B) → f y ≡ some c → (b ∈ filter_map f ys → (x : A) × (x ∈ ys) × (f x ≡ some b)) → b ∈ (c ∷ filter_map f ys)
          → (x : A) × (x ∈ (y ∷ ys)) × (f x ≡ some b)
      first c e rest (here q) = (y, here refl, e ∙ ap {B = Option B} some (sym q))
      first c e rest (there i) = later rest i

      go : (o : Option B) → f y ≡ o → b ∈ filter_map f (y ∷ ys) → (b ∈ filter_map f ys → (x : A) × (x ∈ ys) × (f x ≡ some b)) → (x : A) × (x ∈ (y ∷ ys)) × (f x ≡ some b)
      go none e i rest = later rest (subst (λ l. b ∈ l) (filter_map-cons-none f y ys e) i)
      go (some c) e i rest = first c e rest (subst (λ l. b ∈ l) (filter_map-cons-some f y ys e) i)

-- the lists that a function gives on a list, one after another
module _ {A B : Type 0} (f : A → List B) where
  pub joined_in : {x : A} {xs : List A} {b : B} → x ∈ xs → b ∈ f x → b ∈ flat_map f xs
  unfolding flat_map
  joined_in {b} (here {x = y} {xs = ys} e) q = ∈_append (f y) (flat_map f ys) (inl (subst (λ z. b ∈ f z) e q))
  joined_in (there {x = y} {xs = ys} h) q = ∈_append (f y) (flat_map f ys) (inr (joined_in h q))

  pub joined_only : {b : B} (xs : List A) → b ∈ flat_map f xs → (x : A) × (x ∈ xs) × (b ∈ f x)
  unfolding flat_map
  joined_only [] h = elim h [ ]
  joined_only {b} (y ∷ ys) h = go (Memᴰ.append_cases (f y) {t = flat_map f ys} h) (joined_only ys)
    where
      go : (b ∈ f y) ⊎ (b ∈ flat_map f ys) → (b ∈ flat_map f ys → (x : A) × (x ∈ ys) × (b ∈ f x)) → (x : A) × (x ∈ (y ∷ ys)) × (b ∈ f x)
      go (inl i) rest = (y, here refl, i)
      go (inr i) rest = let r = rest i in (r.0, there r.1, r.2)

-- the numbers below n
unfoldable pub below : ℕ → List ℕ
below zero = []
below (suc n) = n ∷ below n

pub below_in : (t n : ℕ) → t < n → t ∈ below n
unfolding below
below_in t zero h = absurd (not-suc-le-zero h)
below_in t (suc n) h = go (ℕ_discrete t n) (below_in t n)
  where
    go : Dec (t ≡ n) → (t < n → t ∈ below n) → t ∈ (n ∷ below n)
    go (yes e) rest = here e
    go (no ne) rest = there (rest (omega arith))

-- ---- a list backwards

module _ {A : Type 0} where
  pub reverse_in : {x : A} {xs : List A} → x ∈ xs → x ∈ reverse xs
  reverse_in (here {x = y} {xs = ys} e) = rw (reverse-cons y ys) (∈_append (reverse ys) (y ∷ []) (inr (here e)))
  reverse_in (there {x = y} {xs = ys} m) = rw (reverse-cons y ys) (∈_append (reverse ys) (y ∷ []) (inl (reverse_in m)))

  pub reverse_only : {x : A} (xs : List A) → x ∈ reverse xs → x ∈ xs
  reverse_only [] m = elim m [ ]
  reverse_only {x} (y ∷ ys) m = go (Memᴰ.append_cases (reverse ys) (rw (reverse-cons y ys) at m)) (reverse_only ys)
    where
      go : (x ∈ reverse ys) ⊎ (x ∈ (y ∷ [])) → (x ∈ reverse ys → x ∈ ys) → x ∈ (y ∷ ys)
      go (inl i) rest = there (rest i)
      go (inr i) rest = here (Memᴰ.eq_of_singleton i)

-- ---- what is computed of each element

-- two functions that map a list to one list agree at each element
pub map_each : {A B : Type 0} (f g : A → B) (xs : List A) → map f xs ≡ map g xs → (x : A) → x ∈ xs → f x ≡ g x
map_each {A = A} {B = B} f g [] e y x3 = elim x3 [ ]
map_each f g (x ∷ xs) e y (here p) = let h : f x ≡ g x = cc in ap f p ∙ h ∙ ap g (sym p)
map_each f g (x ∷ xs) e y (there m) = let t : map f xs ≡ map g xs = cc in map_each f g xs t y m

-- and functions that agree at each map it to one list
pub map_same : {A B : Type 0} (f g : A → B) (xs : List A) → ((x : A) → x ∈ xs → f x ≡ g x) → map f xs ≡ map g xs
map_same f g [] h = refl
map_same f g (x ∷ xs) h = ap₂ (λ y ys. y ∷ ys) (h x (here refl)) (map_same f g xs (λ y m. h y (there m)))

-- ---- the front of a list

pub take_in : {A : Type 0} (i : ℕ) {y : A} {xs : List A} → y ∈ take i xs → y ∈ xs
take_in zero m = elim m [ ]
take_in (suc i) {xs = []} m = elim m [ ]
take_in (suc i) {xs = x ∷ xs} (here e) = here e
take_in (suc i) {xs = x ∷ xs} (there m) = there (take_in i m)

-- the first i + 1 elements: the first i, and one more
pub front_more : (xs : List ℕ) (i : ℕ) → i < length xs → (y : ℕ) → (y ∈ take (i + 1) xs) ↔ ((y ∈ take i xs) ⊎ (y ≡ get_or xs i 0))
front_more xs i h y = rw (add-one, take-suc xs i 0 h) (forth, back)
  where
    parted : (y ∈ take i xs) ⊎ (y ∈ (get_or xs i 0 ∷ [])) → (y ∈ take i xs) ⊎ (y ≡ get_or xs i 0)
    parted (inl m) = inl m
    parted (inr m) = inr (Memᴰ.eq_of_singleton m)

    joined : (y ∈ take i xs) ⊎ (y ≡ get_or xs i 0) → (y ∈ take i xs) ⊎ (y ∈ (get_or xs i 0 ∷ []))
    joined (inl m) = inl m
    joined (inr e) = inr (here e)

    forth : y ∈ (take i xs ++ get_or xs i 0 ∷ []) → (y ∈ take i xs) ⊎ (y ≡ get_or xs i 0)
    forth m = parted (Memᴰ.append_cases (take i xs) m)

    back : (y ∈ take i xs) ⊎ (y ≡ get_or xs i 0) → y ∈ (take i xs ++ get_or xs i 0 ∷ [])
    back s = ∈_append (take i xs) (get_or xs i 0 ∷ []) (joined s)
