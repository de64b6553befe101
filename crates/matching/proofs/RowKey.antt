-- Laws of a row's key. Assumes nothing.
use borrow.Author.Tests.{eq-eqb, ne_eqb}
use lib.ListN.{length, get_or, drop, drop_of_length-le}
use mathlib.Core.List.{List, [], map}
use mathlib.Core.Path.{◌≡◌, sym, ap, ◌∙◌, subst}
use native.Mathlib.Nat.{le_refl}
use native.Mathlib.Omega.{arith}
use Prim.Native.Nat.{ℕ, suc, ◌+◌, ◌*◌, ◌-◌, ◌^◌, ◌≤◌, ◌<◌}
use Rattle.meaning.specs.Core.{Assignment}
use Rattle.meaning.specs.Limits.{key_room, max_values, max_variables, unused}
use Rattle.matching.specs.Plan.{stacked, masked, KeyVariables, Bindings, ColumnsBytes, ColumnsAre, KeyFrom}
use Rattle.matching.proofs.Bytes.{pow_next, below_room, stacked_drop}
use Rattle.meaning.proofs.Lists.Places.{∈_at}

-- the key of the columns from c on
pub record Keying (rows : List ℕ) (place : ℕ) (vs cols start : List ℕ) (c key : ℕ) : Type 0 where
  pub within : c ≤ length vs
  pub small : key < max_values ^ (length vs - c)
  pub is : (σ : Assignment) → ColumnsAre rows place vs cols σ → key ≡ stacked (map (masked start σ) (drop c vs))

none : (σ : Assignment) (vs : List ℕ) → vs ≡ [] → stacked (map σ vs) ≡ 0
unfolding stacked
none σ vs e = rw e

pub keying_start : (rows : List ℕ) (place : ℕ) (vs cols start : List ℕ) → Keying rows place vs cols start (length vs) 0
keying_start rows place vs cols start =
    let e : length vs - length vs ≡ 0 = omega arith in
    record {
      within = le_refl (length vs);
      small = rw e (omega arith);
      is = λ σ f. sym (none (masked start σ) (drop (length vs) vs) (drop_of_length-le vs (le_refl (length vs))));
    }

module _ {rows : List ℕ} {place : ℕ} {vs cols start : List ℕ} {c key : ℕ} (i : Keying rows place vs cols start c key) (h : 0 < c) where
  next : (σ : Assignment) → stacked (map σ (drop (c - 1) vs)) ≡ stacked (map σ (drop c vs)) * max_values + σ (get_or vs (c - 1) 0)
  next σ =
      let e : suc (c - 1) ≡ c = omega arith in
      subst (λ n. stacked (map σ (drop (c - 1) vs)) ≡ stacked (map σ (drop n vs)) * max_values + σ (get_or vs (c - 1) 0)) e
      (stacked_drop σ vs (c - 1) (omega (arith, i.within)))

  pub keying_room : KeyVariables vs → key < key_room
  keying_room v = below_room (length vs - c) key i.small (omega (arith, v.short, i.within))

  pub keying_variable : KeyVariables vs → get_or vs (c - 1) 0 < max_variables
  keying_variable v = v.below (get_or vs (c - 1) 0) (∈_at vs (c - 1) (omega (arith, i.within)))

  pub keying_within : ColumnsBytes rows place cols (length vs) → place + get_or cols (c - 1) 0 < length rows
  keying_within b = b.within (c - 1) (omega (arith, i.within))

  pub keying_cell : ColumnsBytes rows place cols (length vs) → get_or rows (place + get_or cols (c - 1) 0) 0 < max_values
  keying_cell b = b.small (c - 1) (omega (arith, i.within))

  -- a value's number x for the column before
  step : (x : ℕ) → x < max_values → ((σ : Assignment) → ColumnsAre rows place vs cols σ → masked start σ (get_or vs (c - 1) 0) ≡ x)
      → Keying rows place vs cols start (c - 1) (key * max_values + x)
  step x b e = record {
    within = omega (arith, i.within);
    small =
        let q : length vs - (c - 1) ≡ length vs - c + 1 = omega (arith, i.within) in
        rw q (omega (arith, i.small, pow_next (length vs - c), b));
    is = λ σ f. omega (arith, i.is σ f, next (masked start σ), e σ f);
  }

  pub keying_open : ColumnsBytes rows place cols (length vs) → get_or start (get_or vs (c - 1) 0) 0 ≡ unused
      → Keying rows place vs cols start (c - 1) (key * max_values + get_or rows (place + get_or cols (c - 1) 0) 0)
  keying_open b e = step _ (keying_cell b) (λ σ f. rw (eq-eqb _ _ e) (sym (f (c - 1) (omega (arith, i.within)))))

  pub keying_bound : Bindings start → (get_or start (get_or vs (c - 1) 0) 0 ≡ unused → ⊥) → Keying rows place vs cols start (c - 1) (key * max_values + get_or start (get_or vs (c - 1) 0) 0)
  keying_bound g n = step _ (g.small _ n) (λ σ f. rw (ne_eqb _ _ n))

pub keying_done : {rows : List ℕ} {place : ℕ} {vs cols start : List ℕ} {c key : ℕ} → Keying rows place vs cols start c key → c ≤ 0 → KeyFrom key rows place vs cols start
keying_done {vs = vs} {start = start} {c = c} i z σ f =
    let e : c ≡ 0 = omega arith in
    i.is σ f ∙ ap (λ n. stacked (map (masked start σ) (drop n vs))) e
