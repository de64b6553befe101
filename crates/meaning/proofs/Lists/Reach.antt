-- What can be reached from some seeds by steps, in a finite universe, listed. Assumes nothing.
use lib.ListN.{length}
use mathlib.Core.List.{List, [], ◌∷◌, flat_map}
use mathlib.Core.Logic.Dec
use mathlib.Core.Logic.{◌⊎◌, ◌↔◌, inl, inr}
use mathlib.Core.Path.{refl, sym, subst}
use native.Mathlib.Omega.{arith}
use Prim.Native.Nat.{ℕ, zero, suc, ◌≤◌, ◌<◌}
use Rattle.meaning.proofs.Lists.Members.{find, joined_in, joined_only, keep, selected, selected_in, ∈_dec}
use Rattle.meaning.specs.Member.{◌∈◌, here, there}

-- ---- how many elements pass a test

module _ {A : Type 0} {Q R : A → Type 0} (d : (x : A) → Dec (Q x)) (d' : (x : A) → Dec (R x)) (less : (x : A) → R x → Q x) where
  fewer : (xs : List A) → length (selected d' xs) ≤ length (selected d xs)
  unfolding selected keep
  fewer [] = omega arith
  fewer (x ∷ xs) = go (d x) (d' x) (fewer xs)
    where
      go : (q : Dec (Q x)) (r : Dec (R x)) → length (selected d' xs) ≤ length (selected d xs)
          → length (keep d' x r (selected d' xs)) ≤ length (keep d x q (selected d xs))
      go (yes q) (yes r) h = omega arith
      go (yes q) (no n) h = omega arith
      go (no n) (yes r) h = absurd (n (less x r))
      go (no n) (no m) h = h

  one_fewer : {y : A} {xs : List A} → y ∈ xs → Q y → ¬ R y → length (selected d' xs) < length (selected d xs)
  unfolding selected keep
  one_fewer {y} (here {x} {xs} e) q n = go (d x) (d' x) (fewer xs)
    where
      go : (b : Dec (Q x)) (c : Dec (R x)) → length (selected d' xs) ≤ length (selected d xs)
          → length (keep d' x c (selected d' xs)) < length (keep d x b (selected d xs))
      go b (yes r) h = absurd (n (subst R (sym e) r))
      go (yes b) (no c) h = omega arith
      go (no b) (no c) h = absurd (b (subst Q e q))
  one_fewer (there {x} {xs} i) q n = go (d x) (d' x) (one_fewer i q n)
    where
      go : (b : Dec (Q x)) (c : Dec (R x)) → length (selected d' xs) < length (selected d xs)
          → length (keep d' x c (selected d' xs)) < length (keep d x b (selected d xs))
      go (yes b) (yes c) h = omega arith
      go (yes b) (no c) h = omega arith
      go (no b) (yes c) h = absurd (b (less x c))
      go (no b) (no c) h = h

-- ---- the closure

module _ {A : Type 0} (same : Discrete A) (seeds : List A) (next : A → List A) where
  pub data Reached : A → Type 0 where
    seed : {x : A} → x ∈ seeds → Reached x
    step : {x y : A} → Reached x → y ∈ next x → Reached y

  unfoldable pub absent? : (seen : List A) (x : A) → Dec (¬ (x ∈ seen))
  unfolding Dec.not ∈_dec
  absent? seen x = Dec.not (∈_dec same x seen)

  -- add a successor that is not yet there, as often as the count allows
  unfoldable pub grow : ℕ → List A → List A
  unfolding absent? find flat_map
  grow zero seen = seen
  grow (suc k) seen = elim (find (absent? seen) (flat_map next seen)) [ inl f ↦ grow k (f.0 ∷ seen) | inr n ↦ seen ]

  Found : List A → Type 0
  Found seen = ((y : A) × (y ∈ flat_map next seen) × ¬ (y ∈ seen)) ⊎ ((y : A) → y ∈ flat_map next seen → ¬ ¬ (y ∈ seen))

  -- what is there was reached
  grow_sound : (k : ℕ) (seen : List A) → ((x : A) → x ∈ seen → Reached x) → (x : A) → x ∈ grow k seen → Reached x
  unfolding grow Found
  grow_sound zero seen ok x h = ok x h
  grow_sound (suc k) seen ok x h = go (find (absent? seen) (flat_map next seen)) h (grow_sound k)
    where
      one_more : (y : A) → y ∈ flat_map next seen → (z : A) → z ∈ (y ∷ seen) → Reached z
      one_more y i z (here e) = let r = joined_only next seen i in step (ok r.0 r.1) (subst (λ w. w ∈ next r.0) (sym e) r.2)
      one_more y i z (there j) = ok z j

      go : (r : Found seen) → x ∈ (elim r as (λ _. List A) [ inl f ↦ grow k (f.0 ∷ seen) | inr n ↦ seen ])
          → ((seen : List A) → ((x : A) → x ∈ seen → Reached x) → (x : A) → x ∈ grow k seen → Reached x) → Reached x
      go (inl f) h rest = rest (f.0 ∷ seen) (one_more f.0 f.1) x h
      go (inr n) h rest = ok x h

  -- nothing is lost
  grow_keeps : (k : ℕ) (seen : List A) (x : A) → x ∈ seen → x ∈ grow k seen
  unfolding grow Found
  grow_keeps zero seen x h = h
  grow_keeps (suc k) seen x h = go (find (absent? seen) (flat_map next seen)) (grow_keeps k)
    where
      go : (r : Found seen) → ((seen : List A) (x : A) → x ∈ seen → x ∈ grow k seen)
          → x ∈ (elim r as (λ _. List A) [ inl f ↦ grow k (f.0 ∷ seen) | inr n ↦ seen ])
      go (inl f) rest = rest (f.0 ∷ seen) x (there h)
      go (inr n) rest = h

  module _ (U : List A) (in-U : (x : A) → Reached x → x ∈ U) where
    missing : List A → ℕ
    missing seen = length (selected (absent? seen) U)

    fewer_missing : (seen : List A) (y : A) → y ∈ U → ¬ (y ∈ seen) → missing (y ∷ seen) < missing seen
    unfolding missing
    fewer_missing seen y i n = one_fewer (absent? seen) (absent? (y ∷ seen)) (λ x h j. h (there j)) i n (λ h. h (here refl))

    none_missing : (seen : List A) → missing seen ≤ 0 → (y : A) → y ∈ U → y ∈ seen
    unfolding missing
    none_missing seen h y i = go (∈_dec same y seen)
      where
        empty : (l : List A) → length l ≤ 0 → y ∈ l → ⊥
        empty [] z j = elim j [ ]
        empty (w ∷ l) z j = omega arith

        go : Dec (y ∈ seen) → y ∈ seen
        go (yes j) = j
        go (no n) = absurd (empty (selected (absent? seen) U) h (selected_in (absent? seen) i n))

    -- with a count that is large enough the steps lead nowhere new
    grow_closed : (k : ℕ) (seen : List A) → ((x : A) → x ∈ seen → Reached x) → missing seen ≤ k
        → (x y : A) → x ∈ grow k seen → y ∈ next x → y ∈ grow k seen
    unfolding grow Found
    grow_closed zero seen ok m x y h i = none_missing seen m y (in-U y (step (ok x h) i))
    grow_closed (suc k) seen ok m x y h i = go (find (absent? seen) (flat_map next seen)) h (grow_closed k)
      where
        one_more : (z : A) → z ∈ flat_map next seen → (w : A) → w ∈ (z ∷ seen) → Reached w
        one_more z j w (here e) = let r = joined_only next seen j in step (ok r.0 r.1) (subst (λ v. v ∈ next r.0) (sym e) r.2)
        one_more z j w (there l) = ok w l

        decided : Dec (y ∈ seen) → ¬ ¬ (y ∈ seen) → y ∈ seen
        decided (yes j) nn = j
        decided (no n) nn = absurd (nn n)

        go : (r : Found seen) → x ∈ (elim r as (λ _. List A) [ inl f ↦ grow k (f.0 ∷ seen) | inr n ↦ seen ])
            → ((seen : List A) → ((x : A) → x ∈ seen → Reached x) → missing seen ≤ k → (x y : A) → x ∈ grow k seen → y ∈ next x → y ∈ grow k seen)
            → y ∈ (elim r as (λ _. List A) [ inl f ↦ grow k (f.0 ∷ seen) | inr n ↦ seen ])
        go (inl f) h rest =
            let z = f.0 in
            let lt = fewer_missing seen z (in-U z (one_more z f.1 z (here refl))) f.2 in
            rest (z ∷ seen) (one_more z f.1) (omega arith) x y h i
        go (inr n) h rest = decided (∈_dec same y seen) (n y (joined_in next h i))

    missing_le : missing seeds ≤ length U
    unfolding missing selected keep
    missing_le = go U
      where
        go : (xs : List A) → length (selected (absent? seeds) xs) ≤ length xs
        go [] = omega arith
        go (x ∷ xs) = pick (absent? seeds x) (go xs)
          where
            pick : (r : Dec (¬ (x ∈ seeds))) → length (selected (absent? seeds) xs) ≤ length xs → length (keep (absent? seeds) x r (selected (absent? seeds) xs)) ≤ suc (length xs)
            pick (yes q) h = omega arith
            pick (no n) h = omega arith

    pub reach_iff : (k : ℕ) → length U ≤ k → (x : A) → (x ∈ grow k seeds) ↔ Reached x
    reach_iff k enough x = (grow_sound k seeds (λ y h. seed h) x, all)
      where
        all : {y : A} → Reached y → y ∈ grow k seeds
        all (seed h) = grow_keeps k seeds _ h
        all (step {x = w} {y} r h) = grow_closed k seeds (λ z i. seed i) (omega (arith, missing_le)) w y (all r) h
