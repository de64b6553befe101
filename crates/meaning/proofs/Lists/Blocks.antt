-- Records of one length, one after another: how long they are, which numbers are whose. Assumes nothing.
use lib.ListN.{get_or-append, drop, get_or, get_elem?, length, length-append, take}
use lib.Seq.{drop_at, drop-drop, get_or-append-add, take_at, take-length}
use mathlib.Core.List.{List, [], ◌∷◌, ◌++◌, append_assoc, flat_map, flatten}
use mathlib.Core.Option.{some, none-ne-some, some-injective}
use mathlib.Core.Path.{◌≡◌, refl, sym, ap, ◌∙◌}
use native.Mathlib.Nat.{mul-le-mul_right, suc-mul}
use native.Mathlib.Omega.{arith}
use Prim.Native.Nat.{ℕ, zero, suc, ◌+◌, ◌*◌, ◌≤◌, ◌<◌}
use Rattle.meaning.proofs.Lists.Members.{element}
use Rattle.meaning.proofs.Lists.Parts.{part_of}
use Rattle.meaning.proofs.Lists.Places.{inside, placed, there_is}
use Rattle.meaning.specs.Member.{◌∈◌, here, there}

-- record i of n ends before the end of all
pub record_end : (i n w : ℕ) → i < n → i * w + w ≤ n * w
record_end i n w h = omega (arith, suc-mul i w, mul-le-mul_right {m = suc i} {n = n} w h)

module _ {A : Type 0} (f : A → List ℕ) (w : ℕ) (each : (x : A) → length (f x) ≡ w) where
  pub length_flat : (xs : List A) → length (flat_map f xs) ≡ length xs * w
  unfolding flat_map
  length_flat [] = sym (zero_mul w)
    where
      zero_mul : (k : ℕ) → 0 * k ≡ 0
      zero_mul k = omega arith
  length_flat (x ∷ xs) = let s : suc (length xs) * w ≡ w + length xs * w = omega arith in omega (arith, length-append (f x) (flat_map f xs), each x, length_flat xs, s)

  pub flat_at : (xs : List A) (i : ℕ) (x : A) → get_elem? xs i ≡ some x → take w (drop (i * w) (flat_map f xs)) ≡ f x
  unfolding flat_map
  flat_at [] i x e = absurd (none-ne-some x e)
  flat_at (y ∷ xs) zero x e =
      let z : 0 * w ≡ 0 = omega arith in
      ap (λ (k : ℕ). take w (drop k (f y ++ flat_map f xs))) z ∙ take_at (f y) (flat_map f xs) w (each y) ∙ ap f (some-injective y x e)
  flat_at (y ∷ xs) (suc i) x e =
      let s : suc i * w ≡ w + i * w = omega arith in
      ap (λ (k : ℕ). take w (drop k (f y ++ flat_map f xs))) s ∙ ap (λ (t : List ℕ). take w t) (sym (drop-drop (i * w) w (f y ++ flat_map f xs)))
      ∙ ap (λ (t : List ℕ). take w (drop (i * w) t)) (drop_at (f y) (flat_map f xs) w (each y)) ∙ flat_at xs i x e

  -- record j of the numbers is x's
  pub record BlockAt (numbers : List ℕ) (j : ℕ) (x : A) : Type 0 where
    pub is : take w (drop (j * w) numbers) ≡ f x

  module _ (xs : List A) (numbers : List ℕ) (are : take (length xs * w) numbers ≡ flat_map f xs) where
    block : (j : ℕ) (x : A) → get_elem? xs j ≡ some x → BlockAt numbers j x
    block j x e = record {
      is = part_of numbers (flat_map f xs) (length xs * w) (j * w) w are (record_end j (length xs) w (inside xs j x e)) ∙ flat_at xs j x e;
    }

    pub block_of : (x : A) → x ∈ xs → (j : ℕ) × (j < length xs) × BlockAt numbers j x
    block_of x m = let r = placed m in (r.0, inside xs r.0 x r.1, block r.0 x r.1)

    pub block_at : (j : ℕ) → j < length xs → (x : A) × (x ∈ xs) × BlockAt numbers j x
    block_at j h = let r = there_is xs j h in (r.0, element xs j r.0 r.1, block j r.0 r.1)

  -- the numbers are those of the records and no others
  pub whole : (xs : List A) (numbers : List ℕ) → numbers ≡ flat_map f xs → take (length xs * w) numbers ≡ flat_map f xs
  whole xs numbers e = rw (e, ← (length_flat xs)) (take-length (flat_map f xs))

-- ---- lists of lists

pub flat_join : (xs ys : List (List ℕ)) → flatten (xs ++ ys) ≡ flatten xs ++ flatten ys
unfolding flatten
flat_join [] ys = refl
flat_join (x ∷ xs) ys = ap (λ (l : List ℕ). x ++ l) (flat_join xs ys) ∙ sym (append_assoc x (flatten xs) (flatten ys))

-- number j of record k
pub flatten_at : (w : ℕ) (rs : List (List ℕ)) → ((r : List ℕ) → r ∈ rs → length r ≡ w) → (k j : ℕ) (r : List ℕ) → get_elem? rs k ≡ some r → j < w
    → get_or (flatten rs) (k * w + j) 0 ≡ get_or r j 0
unfolding flatten
flatten_at w [] wide k j r e h = absurd (none-ne-some r e)
flatten_at w (s ∷ rs) wide zero j r e h =
    ap (λ (i : ℕ). get_or (s ++ flatten rs) i 0) (let z : 0 * w + j ≡ j = omega arith in z)
    ∙ get_or-append s (flatten rs) 0 j (omega (arith, wide s (here refl))) ∙ ap (λ (l : List ℕ). get_or l j 0) (some-injective s r e)
flatten_at w (s ∷ rs) wide (suc k) j r e h =
    ap (λ (i : ℕ). get_or (s ++ flatten rs) i 0) (let z : suc k * w + j ≡ length s + (k * w + j) = omega (arith, suc-mul k w, wide s (here refl)) in z)
    ∙ get_or-append-add s (flatten rs) (k * w + j) 0 ∙ flatten_at w rs (λ q i. wide q (there i)) k j r e h
