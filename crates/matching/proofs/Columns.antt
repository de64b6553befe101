-- Laws of binding an atom's variables to a candidate row, column by column. Assumes nothing.
use lib.ListN.{length, get_or, set, drop, length-set, drop_of_length-le}
use lib.Seq.{get_or-set_same, get_or-set_other}
use mathlib.Core.List.{List, map}
use mathlib.Core.Logic.{◌≢◌, ◌⊎◌, inl, inr}
use mathlib.Core.Path.{◌≡◌, sym, subst, ◌∙◌}
use native.Mathlib.Decide.{ℕ_discrete}
use native.Mathlib.Nat.{sub-zero}
use native.Mathlib.Numerals.{add-one}
use native.Mathlib.Omega.{arith}
use Prim.Native.Nat.{ℕ, ◌+◌, ◌*◌, ◌-◌, ◌/◌, ◌%◌, ◌^◌, ◌≤◌, ◌<◌, zero-le}
use Rattle.meaning.specs.Core.{Assignment}
use Rattle.meaning.specs.Limits.{max_values, max_variables, unused}
use Rattle.meaning.proofs.Lists.Places.{∈_at, ∈_index}
use Rattle.matching.specs.Plan.{stacked, Bound, Bindings, Extends, KeyVariables, RowBindings}
use Rattle.matching.proofs.Bytes.{pow_next, stacked_drop}

abbrev pub Small : Assignment → Type 0
Small σ = (v : ℕ) → σ v < max_values

pub variable_below : {vs : List ℕ} → KeyVariables vs → (c : ℕ) → c < length vs → get_or vs c 0 < max_variables
variable_below {vs} k c h = k.below _ (∈_at vs c h)

-- the first c variables are bound to the candidate's cells; rest is the number of the other cells
pub record Columns (vs env₀ : List ℕ) (key c rest : ℕ) (env : List ℕ) : Type 0 where
  pub within : c ≤ length vs
  pub small : rest < max_values ^ (length vs - c)
  pub bindings : Bindings env
  pub forth : (σ : Assignment) → Small σ → Extends env₀ σ → key ≡ stacked (map σ vs) → Extends env σ × (rest ≡ stacked (map σ (drop c vs)))
  pub back : (σ : Assignment) → Extends env σ → rest ≡ stacked (map σ (drop c vs)) → Extends env₀ σ × (key ≡ stacked (map σ vs))
  pub kept : (v : ℕ) → Bound env₀ v → Bound env v
  pub new : (i : ℕ) → i < c → Bound env (get_or vs i 0)

pub columns_start : (vs env : List ℕ) (key : ℕ) → key < max_values ^ length vs → Bindings env → Columns vs env key 0 key env
columns_start vs env key h b = record {
  within = zero-le;
  small = rw sub-zero h;
  bindings = b;
  forth = λ σ s x e. (x, e);
  back = λ σ x e. (x, e);
  kept = λ v h. h;
  new = λ i h. absurd (omega arith);
}

module _ {vs env₀ : List ℕ} {key c rest : ℕ} {env : List ℕ} (i : Columns vs env₀ key c rest env) (h : c < length vs) (v : ℕ) (is : get_or vs c 0 ≡ v) where
  next : (σ : Assignment) → stacked (map σ (drop c vs)) ≡ stacked (map σ (drop (c + 1) vs)) * max_values + σ v
  next σ = rw (add-one, ← is) (stacked_drop σ vs c h)

  module _ (σ : Assignment) (s : Small σ) (e : rest ≡ stacked (map σ (drop c vs))) where
    low : rest % max_values ≡ σ v
    low = omega (arith, e, next σ, s v)

    high : rest / max_values ≡ stacked (map σ (drop (c + 1) vs))
    high = omega (arith, e, next σ, s v)

  -- the column disagrees with what its variable is bound to
  pub columns_differ : Bound env v → (get_or env v 0 ≡ rest % max_values → ⊥) → (σ : Assignment) → Small σ → Extends env₀ σ → key ≡ stacked (map σ vs) → ⊥
  columns_differ b n σ s x e =
      let f = i.forth σ s x e in
      n (sym (f.0.at v b) ∙ sym (low σ s f.1))

  -- it agrees, or its variable was not bound
  module _ (l : v < max_variables) (agrees : (get_or env v 0 ≡ unused) ⊎ (get_or env v 0 ≡ rest % max_values)) where
    env' : List ℕ
    env' = set env v (rest % max_values)

    here_is : get_or (set env v (rest % max_values)) v 0 ≡ rest % max_values
    here_is = get_or-set_same env v (rest % max_values) 0 (omega (arith, i.bindings.long))

    other_is : (w : ℕ) → w ≢ v → get_or (set env v (rest % max_values)) w 0 ≡ get_or env w 0
    other_is w n = get_or-set_other env v w (rest % max_values) 0 n

    bound_here : Bound (set env v (rest % max_values)) v
    bound_here e = omega (arith, here_is, e)

    bound_more : (w : ℕ) → Bound env w → Bound (set env v (rest % max_values)) w
    bound_more w b = go (ℕ_discrete w v)
      where
        go : Dec (w ≡ v) → Bound (set env v (rest % max_values)) w
        go (yes e) = rw e bound_here
        go (no n) = rw (other_is w n) b

    forth_extends : (σ : Assignment) → σ v ≡ rest % max_values → Extends env σ → Extends (set env v (rest % max_values)) σ
    forth_extends σ e x = record { at = λ w b. go w b (ℕ_discrete w v) }
      where
        go : (w : ℕ) → Bound (set env v (rest % max_values)) w → Dec (w ≡ v) → σ w ≡ get_or (set env v (rest % max_values)) w 0
        go w b (yes q) = rw (q, here_is) e
        go w b (no n) = x.at w (rw (other_is w n) at b) ∙ sym (other_is w n)

    back_extends : (σ : Assignment) → Extends (set env v (rest % max_values)) σ → Extends env σ
    back_extends σ x = record { at = λ w b. go w b (ℕ_discrete w v) agrees }
      where
        go : (w : ℕ) → Bound env w → Dec (w ≡ v) → (get_or env v 0 ≡ unused) ⊎ (get_or env v 0 ≡ rest % max_values) → σ w ≡ get_or env w 0
        go w b (yes q) (inl u) = absurd (b (rw q u))
        go w b (yes q) (inr u) = rw (q, u) (x.at v bound_here ∙ here_is)
        go w b (no n) u = x.at w (bound_more w b) ∙ other_is w n

    small_more : (w : ℕ) → Bound (set env v (rest % max_values)) w → get_or (set env v (rest % max_values)) w 0 < max_values
    small_more w b = go (ℕ_discrete w v)
      where
        go : Dec (w ≡ v) → get_or (set env v (rest % max_values)) w 0 < max_values
        go (yes e) = rw (e, here_is) (omega arith)
        go (no n) = rw (other_is w n) (i.bindings.small w (rw (other_is w n) at b))

    pub columns_again : Columns vs env₀ key (c + 1) (rest / max_values) (set env v (rest % max_values))
    columns_again = record {
      within = omega arith;
      small =
          let q : length vs - c ≡ length vs - (c + 1) + 1 = omega arith in
          let p : rest < max_values ^ (length vs - (c + 1) + 1) = rw q at i.small in
          omega (arith, p, pow_next (length vs - (c + 1)));
      bindings = record { long = length-set env v (rest % max_values) ∙ i.bindings.long; small = small_more };
      forth = λ σ s x e. let f = i.forth σ s x e in (forth_extends σ (sym (low σ s f.1)) f.0, high σ s f.1);
      back = λ σ x e. i.back σ (back_extends σ x) (omega (arith, e, next σ, x.at v bound_here, here_is));
      kept = λ w b. bound_more w (i.kept w b);
      new = λ j k. go j k (ℕ_discrete j c);
    }
      where
        go : (j : ℕ) → j < c + 1 → Dec (j ≡ c) → Bound (set env v (rest % max_values)) (get_or vs j 0)
        go j k (yes e) = rw (e, is) bound_here
        go j k (no n) = bound_more (get_or vs j 0) (i.new j (omega arith))

-- all columns agree
module _ {vs env₀ : List ℕ} {key c rest : ℕ} {env : List ℕ} (i : Columns vs env₀ key c rest env) (h : length vs ≤ c) where
  none : (σ : Assignment) → stacked (map σ (drop c vs)) ≡ 0
  unfolding stacked
  none σ = rw drop_of_length-le

  pub columns_done : RowBindings vs key env₀ env
  columns_done =
      let q : length vs - c ≡ 0 = omega arith in
      let p : rest < max_values ^ 0 = rw q at i.small in
      record {
        bindings = i.bindings;
        forth = λ σ s x e. (i.forth σ s x e).0;
        back = λ σ x. i.back σ x (omega (arith, p, none σ));
        kept = i.kept;
        new = λ v m. let f = ∈_index m in subst (Bound env) f.2 (i.new f.0 (omega (arith, f.1, h)));
      }
