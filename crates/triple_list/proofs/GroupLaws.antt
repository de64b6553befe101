-- The triples of one origin in an ascending list: from the rank of the least that there may be, up to the first of another
-- origin. Assumes nothing.
use borrow.Author.Tests.{eq-eqb, ltb-true, ne_eqb}
use lib.Dec.{eqb, ltb}
use lib.ListN.{drop, drop_of_length-le, get_or, length, take, take-append-drop}
use lib.Seq.{drop-cons}
use mathlib.Core.Bool.{Bool, true, false, cond}
use mathlib.Core.List.{List, [], ◌∷◌, ◌++◌}
use mathlib.Core.Logic.{◌≢◌}
use mathlib.Core.Path.{◌≡◌, refl, sym, ap, subst, ◌∙◌}
use native.Mathlib.Decide.{dec_lt, ℕ_discrete}
use native.Mathlib.Numerals.{add-one}
use native.Mathlib.Omega.{arith}
use Prim.Native.Nat.{ℕ, zero, suc, ◌+◌, ◌*◌, ◌-◌, ◌<◌, ◌≤◌}
use Rattle.spread.specs.Keys.{origin_of}
use Rattle.core_lists.proofs.Origin.{keys_le, keys_mono, keys_rank, not_earlier, pass_other}
use Rattle.core_lists.specs.Origin.{group, keys_before}
use Rattle.meaning.specs.Limits.{place_room}
use Rattle.meaning.specs.Member.{◌∈◌, here, there}
use Rattle.meaning.specs.Ordered.{InOrder, before}
use Rattle.meaning.proofs.Cases.{case_on}
use Rattle.sets.specs.Ordered.{rank_of}

module _ (q : ℕ) where
  group_none : (ks : List ℕ) → ((k : ℕ) → k ∈ ks → origin_of k ≢ q) → group q ks ≡ []
  unfolding group
  group_none [] f = refl
  group_none (k ∷ ks) f = rw (ne_eqb (origin_of k) q (f k (here refl))) (group_none ks (λ j m. f j (there m)))

  group_join : (xs ys : List ℕ) → group q (xs ++ ys) ≡ group q xs ++ group q ys
  unfolding group
  group_join [] ys = refl
  group_join (x ∷ xs) ys = let ih = group_join xs ys in case_on (eqb (origin_of x) q) (λ e. rw e (ap (λ (l : List ℕ). x ∷ l) ih)) (λ e. rw e ih)

below_rank : (v : ℕ) (xs : List ℕ) (x : ℕ) → x ∈ take (rank_of v xs) xs → x < v
below_rank v [] x m = elim m [ ]
below_rank v (y ∷ ys) x m = go (ltb y v) refl m (below_rank v ys x)
  where
    go : (b : Bool) → ltb y v ≡ b → x ∈ take (cond b (suc (rank_of v ys)) 0) (y ∷ ys) → (x ∈ take (rank_of v ys) ys → x < v) → x < v
    go true e (here p) rest = let h = ltb-true y v e in omega arith
    go true e (there i) rest = rest i
    go false e i rest = elim i [ ]

from_place : (xs : List ℕ) → InOrder ◌<◌ xs → (i x : ℕ) → x ∈ drop i xs → get_or xs i 0 ≤ x
from_place [] a zero x m = elim m [ ]
from_place [] a (suc i) x m = elim m [ ]
from_place (y ∷ ys) a zero x (here e) = omega arith
from_place (y ∷ ys) (before f a) zero x (there m) = let h = f x m in omega arith
from_place (y ∷ ys) (before f a) (suc i) x m = from_place ys a i x m

module _ (xs : List ℕ) (a : InOrder ◌<◌ xs) (q : ℕ) where
  group_start : (r : ℕ) → r ≡ rank_of (q * place_room) xs → group q (drop r xs) ≡ group q xs
  group_start r e =
      let none : group q (take r xs) ≡ [] = group_none q (take r xs) (λ k m o. let h = below_rank (q * place_room) xs k (subst (λ n. k ∈ take n xs) e m) in let z : ⊥ = omega arith in z) in
      sym (ap (group q) (sym (take-append-drop r xs)) ∙ group_join q (take r xs) (drop r xs) ∙ rw none refl)

  group_next : (i : ℕ) → i < length xs → origin_of (get_or xs i 0) ≡ q → group q (drop i xs) ≡ get_or xs i 0 ∷ group q (drop (i + 1) xs)
  unfolding group
  group_next i h e = rw (drop-cons xs i 0 h, add-one i, eq-eqb (origin_of (get_or xs i 0)) q e) refl

  group_stop : (i : ℕ) → q ≤ origin_of (get_or xs i 0) → origin_of (get_or xs i 0) ≢ q → group q (drop i xs) ≡ []
  group_stop i l n = group_none q (drop i xs) (λ k m o. let h = from_place xs a i k m in let z : ⊥ = omega arith in z)

  group_end : (i : ℕ) → length xs ≤ i → group q (drop i xs) ≡ []
  unfolding group
  group_end i h = rw (drop_of_length-le xs h) refl

module _ (xs : List ℕ) (a : InOrder ◌<◌ xs) (q : ℕ) where
  group_run : (n i : ℕ) → keys_before q xs ≤ i → i + n ≡ keys_before (q + 1) xs → group q (drop i xs) ≡ take n (drop i xs)
  group_run zero i l e = go (dec_lt i (length xs))
    where
      go : Dec (i < length xs) → group q (drop i xs) ≡ []
      go (yes h) = let o = not_earlier xs a (q + 1) i h (omega arith) in group_stop xs a q i (omega arith) (λ z. omega arith)
      go (no n) = group_end xs a q i (omega arith)
  group_run (suc n) i l e =
      group_next xs a q i h here-q ∙ ap (λ (r : List ℕ). get_or xs i 0 ∷ r) (group_run n (i + 1) (omega arith) (omega arith) ∙ ap (λ j. take n (drop j xs)) (add-one i))
      ∙ sym (ap (take (suc n)) (drop-cons xs i 0 h))
    where
      h : i < length xs
      h = omega (arith, keys_le (q + 1) xs)

      here-q : origin_of (get_or xs i 0) ≡ q
      here-q = go (ℕ_discrete (origin_of (get_or xs i 0)) q)
        where
          go : Dec (origin_of (get_or xs i 0) ≡ q) → origin_of (get_or xs i 0) ≡ q
          go (yes z) = z
          go (no z) = absurd (let p = pass_other xs a q i h l (omega arith) z in let y : ⊥ = omega arith in y)

  -- the keys of an origin stand between the places before it and after it
  pub group_between : (from at : ℕ) → from ≡ keys_before q xs → at ≡ keys_before (q + 1) xs → take (at - from) (drop from xs) ≡ group q xs
  group_between from at f e =
      sym (group_run (at - from) from (omega arith) (omega (arith, keys_mono q (q + 1) (omega arith) xs))) ∙ group_start xs a q from (f ∙ keys_rank q xs a)
