-- Numbers of type sets and their masks name the same sets. Assumes nothing.
use borrow.Author.Tests.{le-leb, lt-leb}
use lib.Dec.{T, leb}
use mathlib.Core.Bool.{Bool, true, false}
use mathlib.Core.Path.{◌≡◌, sym, ap, ◌∙◌, subst}
use native.Mathlib.Decide.{dec_lt}
use native.Mathlib.Nat.{lt_of_not-le}
use native.Mathlib.Omega.{arith}
use Prim.Native.Nat.{ℕ, ◌%◌, ◌^◌, ◌<◌, ◌≤◌}
use Rattle.invent.specs.Invent.{mask_of, number_of, set_at}
use Rattle.meaning.specs.Limits.{literal_weight, member_sets, type_sets}
use Rattle.meaning.specs.Tables.{set_of_mask}
use Rattle.meaning.specs.TypeSet.{TypeSet}

-- tests that are true together are equal
both_leb : (a b c d : ℕ) → (a ≤ b → c ≤ d) → (c ≤ d → a ≤ b) → leb a b ≡ leb c d
both_leb a b c d f g = go (dec_lt b a)
  where
    go : Dec (b < a) → leb a b ≡ leb c d
    go (yes h) = lt-leb a b h ∙ sym (lt-leb c d (lt_of_not-le (λ k. let z = g k in let y : ⊥ = omega arith in y)))
    go (no n) = let h : a ≤ b = omega arith in le-leb a b h ∙ sym (le-leb c d (f h))

same_set : {a c : Bool} {b d : ℕ} → a ≡ c → b ≡ d → ◌≡◌ {A = TypeSet} (record { literal = a; mask = b }) (record { literal = c; mask = d })
same_set e f = λ i. record { literal = e i; mask = f i }

pub number_lt : (m : ℕ) → m < 2 ^ 16 → number_of m < member_sets
number_lt m h = omega arith

pub number_set : (m : ℕ) → m < 2 ^ 16 → m % literal_weight < type_sets → set_of_mask m ≡ set_at (number_of m)
unfolding set_of_mask set_at
number_set m h b = same_set (both_leb literal_weight m type_sets (number_of m) (λ k. omega arith) (λ k. omega arith)) (omega arith)

module _ (j : ℕ) (h : j < member_sets) where
  pub mask_set : set_of_mask (mask_of j) ≡ set_at j
  unfolding set_of_mask set_at
  mask_set = same_set (both_leb literal_weight (mask_of j) type_sets j (λ k. omega arith) (λ k. omega arith)) (omega arith)

-- a set has one number
pub number_one : (i j : ℕ) → i < member_sets → j < member_sets → set_at i ≡ set_at j → i ≡ j
unfolding set_at
number_one i j hi hj e =
    let m : i % type_sets ≡ j % type_sets = ap (λ (X : TypeSet). X.mask) e in
    let l : leb type_sets i ≡ leb type_sets j = ap (λ (X : TypeSet). X.literal) e in
    go (dec_lt i type_sets) (dec_lt j type_sets) l m
  where
    clash : true ≡ false → ⊥
    clash q = subst T q tt

    go : Dec (i < type_sets) → Dec (j < type_sets) → leb type_sets i ≡ leb type_sets j → i % type_sets ≡ j % type_sets → i ≡ j
    go (yes a) (yes b) l m = omega arith
    go (yes a) (no b) l m = absurd (clash (sym (le-leb type_sets j (omega arith)) ∙ sym l ∙ lt-leb type_sets i a))
    go (no a) (yes b) l m = absurd (clash (sym (le-leb type_sets i (omega arith)) ∙ l ∙ lt-leb type_sets j b))
    go (no a) (no b) l m = omega arith
