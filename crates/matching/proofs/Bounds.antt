-- Laws of the candidates that bindings leave: their keys lie between two bounds. Assumes nothing.
use lib.ListN.{length, get_or, drop, drop_of_length-le}
use mathlib.Core.List.{List, map}
use mathlib.Core.Path.{◌≡◌, ap, subst}
use native.Mathlib.Decide.{dec_lt}
use native.Mathlib.Nat.{le_refl}
use native.Mathlib.Omega.{arith}
use Prim.Native.Nat.{ℕ, suc, ◌+◌, ◌*◌, ◌-◌, ◌^◌, ◌≤◌, ◌<◌, zero-le}
use Rattle.meaning.specs.Core.{Assignment}
use Rattle.meaning.specs.Limits.{key_room, max_values, max_variables, unused}
use Rattle.meaning.specs.Ordered.{InOrder}
use Rattle.sets.proofs.Rank.{rank_le, rank_above, rank_below}
use Rattle.sets.specs.Ordered.{rank_of}
use Rattle.matching.specs.Plan.{stacked, KeyVariables, Bindings, Extends, SpanOf}
use Rattle.matching.proofs.Bytes.{pow_next, below_room, stacked_drop}
use Rattle.matching.proofs.Columns.{Small}
use Rattle.meaning.proofs.Lists.Places.{∈_at}
use Rattle.meaning.proofs.Lists.OrderedPlaces.{greater_later}

-- the columns from c on have a number between these
pub record Bounds (vs env : List ℕ) (c low high : ℕ) : Type 0 where
  pub within : c ≤ length vs
  pub low_small : low < max_values ^ (length vs - c)
  pub high_small : high < max_values ^ (length vs - c)
  pub above : (σ : Assignment) → Small σ → Extends env σ → low ≤ stacked (map σ (drop c vs))
  pub below : (σ : Assignment) → Small σ → Extends env σ → stacked (map σ (drop c vs)) ≤ high

pub bounds_start : (vs env : List ℕ) → Bounds vs env (length vs) 0 0
unfolding stacked
bounds_start vs env =
    let e : length vs - length vs ≡ 0 = omega arith in
    record {
      within = le_refl (length vs);
      low_small = rw e (omega arith);
      high_small = rw e (omega arith);
      above = λ σ s x. zero-le;
      below = λ σ s x. rw (drop_of_length-le vs (le_refl (length vs))) zero-le;
    }

module _ {vs env : List ℕ} {c low high : ℕ} (b : Bounds vs env c low high) (h : 0 < c) where
  next : (σ : Assignment) → stacked (map σ (drop (c - 1) vs)) ≡ stacked (map σ (drop c vs)) * max_values + σ (get_or vs (c - 1) 0)
  next σ =
      let e : suc (c - 1) ≡ c = omega arith in
      subst (λ n. stacked (map σ (drop (c - 1) vs)) ≡ stacked (map σ (drop n vs)) * max_values + σ (get_or vs (c - 1) 0)) e
      (stacked_drop σ vs (c - 1) (omega (arith, b.within)))

  pub bounds_room : KeyVariables vs → (low < key_room) × (high < key_room)
  bounds_room v = (
    below_room (length vs - c) low b.low_small (omega (arith, v.short, b.within)),
    below_room (length vs - c) high b.high_small (omega (arith, v.short, b.within)),
  )

  pub bounds_variable : KeyVariables vs → get_or vs (c - 1) 0 < max_variables
  bounds_variable v = v.below (get_or vs (c - 1) 0) (∈_at vs (c - 1) (omega (arith, b.within)))

  pow_is : max_values ^ (length vs - (c - 1)) ≡ max_values ^ (length vs - c) * max_values
  pow_is = let e : length vs - (c - 1) ≡ length vs - c + 1 = omega (arith, b.within) in rw e (pow_next (length vs - c))

  -- the column's variable is not bound
  pub bounds_open : Bounds vs env (c - 1) (low * max_values) (high * max_values + (max_values - 1))
  bounds_open = record {
    within = omega (arith, b.within);
    low_small = omega (arith, b.low_small, pow_is);
    high_small = omega (arith, b.high_small, pow_is);
    above = λ σ s x. omega (arith, next σ, b.above σ s x);
    below = λ σ s x. omega (arith, next σ, b.below σ s x, s (get_or vs (c - 1) 0));
  }

  -- it is bound
  pub bounds_bound : Bindings env → (get_or env (get_or vs (c - 1) 0) 0 ≡ unused → ⊥)
      → Bounds vs env (c - 1) (low * max_values + get_or env (get_or vs (c - 1) 0) 0) (high * max_values + get_or env (get_or vs (c - 1) 0) 0)
  bounds_bound g n = record {
    within = omega (arith, b.within);
    low_small = omega (arith, b.low_small, pow_is, g.small (get_or vs (c - 1) 0) n);
    high_small = omega (arith, b.high_small, pow_is, g.small (get_or vs (c - 1) 0) n);
    above = λ σ s x. omega (arith, next σ, b.above σ s x, x.at (get_or vs (c - 1) 0) n);
    below = λ σ s x. omega (arith, next σ, b.below σ s x, x.at (get_or vs (c - 1) 0) n);
  }

-- a key that is not above x stands at x's rank or before it
rank_not_above : (x : ℕ) (xs : List ℕ) (i : ℕ) → InOrder ◌<◌ xs → i < length xs → get_or xs i 0 ≤ x → i ≤ rank_of x xs
rank_not_above x xs i a h l = go (dec_lt (rank_of x xs) i)
  where
    go : Dec (rank_of x xs < i) → i ≤ rank_of x xs
    go (no n) = omega (arith, n)
    go (yes k) =
        absurd (let m = greater_later xs a (rank_of x xs) i k h in
        let q = rank_above x xs (rank_of x xs) (omega (arith, m, l)) a (omega (arith, k, h)) in
        omega (arith, q))

module _ {vs env : List ℕ} {low high : ℕ} {c : ℕ} (b : Bounds vs env c low high) (z : c ≤ 0) (keys : List ℕ) (a : InOrder ◌<◌ keys) (from : ℕ)
    (f : from ≡ rank_of low keys) where
  whole : drop c vs ≡ vs
  whole = let e : c ≡ 0 = omega arith in rw e

  module _ (σ : Assignment) (s : Small σ) (x : Extends env σ) (i : ℕ) (l : i < length keys) (e : get_or keys i 0 ≡ stacked (map σ vs)) where
    from_le : from ≤ i
    from_le = rw f (rank_below low keys i (rw e (rw whole at (b.above σ s x))))

    not_above : get_or keys i 0 ≤ high
    not_above = rw e (rw whole at (b.below σ s x))

    le_last : (last : ℕ) → last ≡ rank_of high keys → i ≤ last
    le_last last t = rw t (rank_not_above high keys i a l not_above)

    -- a key above the highest stands behind
    before_above : (to : ℕ) → to < length keys → high < get_or keys to 0 → i < to
    before_above to k g = go (dec_lt to i) (dec_lt i to)
      where
        go : Dec (to < i) → Dec (i < to) → i < to
        go d (yes m) = m
        go (yes m) (no n) = absurd (omega (arith, greater_later keys a to i m l, not_above, g))
        go (no m) (no n) = absurd (omega (arith, ap (λ j. get_or keys j 0) same, not_above, g))
          where
            same : to ≡ i
            same = omega (arith, m, n)

  pub span_before : (to : ℕ) → from ≤ to → to < length keys → high < get_or keys to 0 → SpanOf (record { start = from; end = to }) vs env keys
  span_before to h k g = record { within = omega (arith, k); holds = λ σ s x i l e. (from_le σ s x i l e, before_above σ s x i l e to k g) }

  module _ (last : ℕ) (t : last ≡ rank_of high keys) where
    pub span_within : last < length keys → SpanOf (record { start = from; end = last + 1 }) vs env keys
    span_within h = record { within = omega arith; holds = λ σ s x i l e. (from_le σ s x i l e, omega (arith, le_last σ s x i l e last t)) }

    pub span_end : length keys ≤ last → SpanOf (record { start = from; end = last }) vs env keys
    span_end h = record { within = rw t (rank_le high keys); holds = λ σ s x i l e. (from_le σ s x i l e, omega (arith, l, h)) }
