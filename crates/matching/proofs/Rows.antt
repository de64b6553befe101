-- Laws of trying an atom's candidate rows one after the other. Assumes nothing.
use lib.ListN.{length, get_or, take, drop, length-take, length-drop}
use lib.Seq.{get_or-take, get_or-drop}
use mathlib.Core.Bool.{Bool, true, false}
use mathlib.Core.List.{List, map}
use mathlib.Core.Logic.{◌⊎◌, ◌↔◌, inl, inr, ⊎_elim}
use mathlib.Core.Path.{◌≡◌, refl, sym, ap, ◌∙◌, subst}
use native.Mathlib.Decide.{ℕ_discrete}
use native.Mathlib.Nat.{add-sub_cancel_left, mod-eq_of_lt}
use native.Mathlib.Omega.{arith}
use Prim.Native.Nat.{ℕ, ◌+◌, ◌*◌, ◌-◌, ◌%◌, ◌^◌, ◌≤◌, ◌<◌}
use Rattle.meaning.specs.Core.{Assignment}
use Rattle.meaning.specs.Member.{◌∈◌}
use Rattle.meaning.specs.Ordered.{InOrder}
use Rattle.meaning.specs.Tables.{packed}
use Rattle.meaning.proofs.Lists.Members.{map_same}
use Rattle.meaning.proofs.Lists.Places.{∈_at, ∈_index}
use Rattle.matching.specs.Plan.{
  stacked,
  variables_at,
  candidates_at,
  Bound,
  AllBound,
  Bindings,
  Extends,
  KeyVariables,
  binding_of,
  Plan,
  Solution,
  Reaches,
  RowBindings,
  RowBound,
  SpanOf,
  GrownTo,
  GrownOver,
}
use Rattle.std.specs.declared.ops.Range.{Range}
use Rattle.matching.proofs.Columns.{Small}
use Rattle.matching.proofs.Grown.{grown_same, grown_iff, over_iff, grown_more, over_more}
use Rattle.meaning.specs.Limits.{atom_width, max_atoms, max_columns, max_rows, max_values}

module _ {atoms : List ℕ} {count : ℕ} {vars cands counts : List ℕ} (p : Plan atoms count vars cands counts) {at : ℕ} (l : at < count) where
  pub rows_length : length (candidates_at cands counts at) ≡ get_or counts at 0
  rows_length = omega (arith, p.few, p.room, p.counted at l, length-take (get_or counts at 0) (drop (at * max_rows) cands), length-drop (at * max_rows) cands)

  pub row_at : (r : ℕ) → r < get_or counts at 0 → get_or (candidates_at cands counts at) r 0 ≡ get_or cands (at * max_rows + r) 0
  row_at r h = get_or-take (get_or counts at 0) (drop (at * max_rows) cands) r 0 h ∙ get_or-drop (at * max_rows) cands r 0

  pub row_in : (r : ℕ) → r < get_or counts at 0 → get_or cands (at * max_rows + r) 0 ∈ candidates_at cands counts at
  row_in r h = subst (λ x. x ∈ candidates_at cands counts at) (row_at r h) (∈_at (candidates_at cands counts at) r (omega (arith, rows_length)))

  pub row_small : (r : ℕ) → r < get_or counts at 0 → get_or cands (at * max_rows + r) 0 < max_values ^ length (variables_at atoms at)
  row_small r h = p.small at l _ (row_in r h)

  pub span_counted : {s : Range ℕ} {env : List ℕ} → SpanOf s (variables_at atoms at) env (candidates_at cands counts at) → {r : ℕ} → r < s.end → r < get_or counts at 0
  span_counted s h = omega (arith, s.within, h, rows_length)

-- ---- what the atom's part and the rows' part of the lists keep

pub record Bounds (atoms cands counts : List ℕ) (at : ℕ) : Type 0 where
  pub few : at < max_atoms
  pub arity : get_or atoms (at * atom_width + 1) 0 ≤ max_columns
  pub own : at * atom_width + atom_width ≤ length atoms
  pub counted : get_or counts at 0 ≤ max_rows
  pub rows : at * max_rows + max_rows ≤ length cands

pub bounds : {atoms : List ℕ} {count : ℕ} {vars cands counts : List ℕ} {at : ℕ} → Plan atoms count vars cands counts → at ≤ count → (at ≡ count → ⊥)
    → Bounds atoms cands counts at
bounds {count = count} {at = at} p h n =
    let l : at < count = omega (arith, h, n) in
    record {
      few = omega (arith, p.few);
      arity = p.arity at l;
      own = omega (arith, p.few, p.long);
      counted = p.counted at l;
      rows = omega (arith, p.few, p.room);
    }

-- ---- the leaf: no atom is left

module _ (atoms : List ℕ) (count : ℕ) (vars cands counts : List ℕ) (at : ℕ) (env : List ℕ) where
  pub all_bound : Reaches atoms count vars cands counts at env → at ≡ count → AllBound vars env
  all_bound h e v m = ⊎_elim (λ b. b) (λ x. absurd (omega (arith, x.1, x.2, e))) (h.bound v m)

  only : AllBound vars env → (k : ℕ) → Solution atoms count vars cands counts at env k → k ≡ packed (map (binding_of env) vars)
  only b k s = s.is ∙ ap packed (map_same s.values (binding_of env) vars (λ v m. s.extends.at v (b v m)))

  one : Bindings env → AllBound vars env → at ≡ count → (k : ℕ) → k ≡ packed (map (binding_of env) vars) → Solution atoms count vars cands counts at env k
  one g b e k q = record {
    values = λ v. get_or env v 0 % max_values;
    small = λ v. omega arith;
    extends = record { at = λ v h. mod-eq_of_lt (g.small v h) };
    fits = λ j h i. absurd (omega arith);
    is = q ∙ ap packed (map_same (binding_of env) (λ v. get_or env v 0 % max_values) vars (λ v m. sym (mod-eq_of_lt (g.small v (b v m)))));
  }

  pub leaf_iff : Bindings env → Reaches atoms count vars cands counts at env → at ≡ count → (k : ℕ)
      → (k ≡ packed (map (binding_of env) vars)) ↔ Solution atoms count vars cands counts at env k
  leaf_iff g r e k = let b = all_bound r e in (one g b e k, only b k)

  -- a head that is known and in the set adds nothing
  pub settled_same : (keys : List ℕ) (n : ℕ) → n ≤ length keys → InOrder ◌<◌ (take n keys) → AllBound vars env × (packed (map (binding_of env) vars) ∈ take n keys)
      → GrownTo n keys n (Solution atoms count vars cands counts at env) keys
  settled_same keys n h a s = grown_same keys n h a (λ k q. subst (λ x. x ∈ take n keys) (sym (only s.0 k q)) s.1)

-- ---- the rows

module _ (atoms : List ℕ) (count : ℕ) (vars cands counts : List ℕ) (at : ℕ) (env : List ℕ) where
  -- the key of a head by one of the first r candidates
  pub record Tried (r k : ℕ) : Type 0 where
    pub solution : Solution atoms count vars cands counts at env k
    pub index : ℕ
    pub before : index < r
    pub counted : index < get_or counts at 0
    pub is : get_or cands (at * max_rows + index) 0 ≡ stacked (map solution.values (variables_at atoms at))

  -- the first r candidates are tried: the set in the first m keys has their heads
  pub record Trying (keys₀ : List ℕ) (n r m : ℕ) (keys : List ℕ) : Type 0 where
    pub long : length keys ≡ length keys₀
    pub grown : GrownTo m keys₀ n (Tried r) keys

module _ {atoms : List ℕ} {count : ℕ} {vars cands counts : List ℕ} (p : Plan atoms count vars cands counts) {at : ℕ} (l : at < count) {env : List ℕ} where
  -- a candidate that fits is in the span
  inside : {s : Range ℕ} → SpanOf s (variables_at atoms at) env (candidates_at cands counts at) → {r k : ℕ} → (t : Tried atoms count vars cands counts at env r k)
      → (s.start ≤ t.index) × (t.index < s.end)
  inside s t = s.holds t.solution.values t.solution.small t.solution.extends t.index (omega (arith, rows_length p l, t.counted)) (row_at p l t.index t.counted ∙ t.is)

  pub trying_start : (keys : List ℕ) (n : ℕ) → n ≤ length keys → InOrder ◌<◌ (take n keys) → {s : Range ℕ} → SpanOf s (variables_at atoms at) env (candidates_at cands counts at)
      → Trying atoms count vars cands counts at env keys n s.start n keys
  trying_start keys n h a s = record { long = refl; grown = grown_same keys n h a (λ k t. absurd (omega (arith, (inside s t).0, t.before))) }

  module _ {keys₀ : List ℕ} {n r m : ℕ} {keys : List ℕ} (i : Trying atoms count vars cands counts at env keys₀ n r m keys) where
    pub trying_done : {s : Range ℕ} → SpanOf s (variables_at atoms at) env (candidates_at cands counts at) → s.end ≤ r
        → GrownTo m keys₀ n (Solution atoms count vars cands counts at env) keys
    trying_done s h = grown_iff (λ k. (λ t. t.solution, back k)) i.grown
      where
        back : (k : ℕ) → Solution atoms count vars cands counts at env k → Tried atoms count vars cands counts at env r k
        back k q =
            let f = ∈_index (q.fits at (omega arith) l) in
            let b : f.0 < get_or counts at 0 = omega (arith, f.1, rows_length p l) in
            let e : get_or cands (at * max_rows + f.0) 0 ≡ stacked (map q.values (variables_at atoms at)) = sym (row_at p l f.0 b) ∙ f.2 in
            let w = s.holds q.values q.small q.extends f.0 f.1 f.2 in
            record { solution = q; index = f.0; before = omega (arith, w.1, h); counted = b; is = e }

    -- no assignment that keeps the bindings makes the atom this row
    pub trying_skip : ((σ : Assignment) → Small σ → Extends env σ → get_or cands (at * max_rows + r) 0 ≡ stacked (map σ (variables_at atoms at)) → ⊥)
        → Trying atoms count vars cands counts at env keys₀ n (r + 1) m keys
    trying_skip no_row = record { long = i.long; grown = grown_iff (λ k. (forth k, back k)) i.grown }
      where
        forth : (k : ℕ) → Tried atoms count vars cands counts at env r k → Tried atoms count vars cands counts at env (r + 1) k
        forth k t = record { solution = t.solution; index = t.index; before = omega (arith, t.before); counted = t.counted; is = t.is }

        back : (k : ℕ) → Tried atoms count vars cands counts at env (r + 1) k → Tried atoms count vars cands counts at env r k
        back k t = go (ℕ_discrete t.index r)
          where
            go : Dec (t.index ≡ r) → Tried atoms count vars cands counts at env r k
            go (yes e) = absurd (no_row t.solution.values t.solution.small t.solution.extends
                (subst (λ x. get_or cands (at * max_rows + x) 0 ≡ stacked (map t.solution.values (variables_at atoms at))) e t.is))
            go (no x) = record { solution = t.solution; index = t.index; before = omega (arith, t.before, x); counted = t.counted; is = t.is }

    module _ (h : r < get_or counts at 0) {next : List ℕ} (w : RowBindings (variables_at atoms at) (get_or cands (at * max_rows + r) 0) env next) where
      deeper : (k : ℕ) → Solution atoms count vars cands counts (at + 1) next k → Tried atoms count vars cands counts at env (r + 1) k
      deeper k s =
          let b = w.back s.values s.extends in
          record {
            solution = record { values = s.values; small = s.small; extends = b.0; fits = fits; is = s.is };
            index = r;
            before = omega arith;
            counted = h;
            is = b.1;
          }
        where
          fits : (j : ℕ) → at ≤ j → j < count → stacked (map s.values (variables_at atoms j)) ∈ candidates_at cands counts j
          fits j g u = go (ℕ_discrete j at)
            where
              go : Dec (j ≡ at) → stacked (map s.values (variables_at atoms j)) ∈ candidates_at cands counts j
              go (yes e) = rw e (subst (λ x. x ∈ candidates_at cands counts at) (w.back s.values s.extends).1 (row_in p l r h))
              go (no n) = s.fits j (omega (arith, g, n)) u

      step : (k : ℕ) → (Tried atoms count vars cands counts at env r k ⊎ Solution atoms count vars cands counts (at + 1) next k) ↔ Tried atoms count vars cands counts at env (r + 1) k
      step k = (forth, back)
        where
          forth : Tried atoms count vars cands counts at env r k ⊎ Solution atoms count vars cands counts (at + 1) next k → Tried atoms count vars cands counts at env (r + 1) k
          forth (inl t) = record { solution = t.solution; index = t.index; before = omega (arith, t.before); counted = t.counted; is = t.is }
          forth (inr s) = deeper k s

          back : Tried atoms count vars cands counts at env (r + 1) k → Tried atoms count vars cands counts at env r k ⊎ Solution atoms count vars cands counts (at + 1) next k
          back t = go (ℕ_discrete t.index r)
            where
              go : Dec (t.index ≡ r) → Tried atoms count vars cands counts at env r k ⊎ Solution atoms count vars cands counts (at + 1) next k
              go (yes e) =
                  let s = t.solution in
                  inr (record {
                    values = s.values;
                    small = s.small;
                    extends = w.forth s.values s.small s.extends (subst (λ x. get_or cands (at * max_rows + x) 0 ≡ stacked (map s.values (variables_at atoms at))) e t.is);
                    fits = λ j g u. s.fits j (omega (arith, g)) u;
                    is = s.is;
                  })
              go (no x) = inl (record { solution = t.solution; index = t.index; before = omega (arith, t.before, x); counted = t.counted; is = t.is })

      pub trying_more : {m' : ℕ} {keys' : List ℕ} → GrownTo m' keys m (Solution atoms count vars cands counts (at + 1) next) keys' → length keys' ≡ length keys
          → Trying atoms count vars cands counts at env keys₀ n (r + 1) m' keys'
      trying_more g e = record { long = e ∙ i.long; grown = grown_iff step (grown_more i.grown i.long g) }

      pub trying_over : GrownOver keys m (Solution atoms count vars cands counts (at + 1) next) → GrownOver keys₀ n (Solution atoms count vars cands counts at env)
      trying_over g = over_iff (λ k s. ((step k).0 s).solution) (over_more i.grown i.long g)

      -- the head variables that this atom binds
      pub reaches_next : Reaches atoms count vars cands counts at env → Reaches atoms count vars cands counts (at + 1) next
      reaches_next f = record { bound = λ v m. go v (f.bound v m) }
        where
          go : (v : ℕ) → Bound env v ⊎ ((j : ℕ) × (at ≤ j) × (j < count) × (v ∈ variables_at atoms j))
              → Bound next v ⊎ ((j : ℕ) × (at + 1 ≤ j) × (j < count) × (v ∈ variables_at atoms j))
          go v (inl b) = inl (w.kept v b)
          go v (inr x) = later (ℕ_discrete x.0 at)
            where
              later : Dec (x.0 ≡ at) → Bound next v ⊎ ((j : ℕ) × (at + 1 ≤ j) × (j < count) × (v ∈ variables_at atoms j))
              later (yes e) = inl (w.new v (subst (λ j. v ∈ variables_at atoms j) e x.3))
              later (no n) = inr (x.0, omega (arith, x.1, n), x.2, x.3)

-- ---- a part from a on, of k elements, as code names it

-- the variables of an atom, and its candidates
abbrev pub own_part : List ℕ → ℕ → List ℕ
own_part atoms at = take (at * atom_width + 2 + get_or atoms (at * atom_width + 1) 0 - (at * atom_width + 2)) (drop (at * atom_width + 2) atoms)

abbrev pub rows_part : List ℕ → List ℕ → ℕ → List ℕ
rows_part cands counts at = take (at * max_rows + get_or counts at 0 - at * max_rows) (drop (at * max_rows) cands)

module _ (atoms cands counts : List ℕ) (at : ℕ) where
  own_is : own_part atoms at ≡ variables_at atoms at
  own_is = ap (λ n. take n (drop (at * atom_width + 2) atoms)) (add-sub_cancel_left (at * atom_width + 2) (get_or atoms (at * atom_width + 1) 0))

  rows_are : rows_part cands counts at ≡ candidates_at cands counts at
  rows_are = ap (λ n. take n (drop (at * max_rows) cands)) (add-sub_cancel_left (at * max_rows) (get_or counts at 0))

-- ---- the loop over the rows of a span

pub record Turn (atoms : List ℕ) (count : ℕ) (vars cands counts : List ℕ) (at : ℕ) (env keys₀ : List ℕ) (n from to : ℕ) (s : Range ℕ) (m : ℕ) (keys : List ℕ) : Type 0 where
  pub plan : Plan atoms count vars cands counts
  pub left : at < count
  pub bindings : Bindings env
  pub reaches : Reaches atoms count vars cands counts at env
  pub span : SpanOf (record { start = from; end = to }) (variables_at atoms at) env (candidates_at cands counts at)
  pub ends : s.end ≡ to
  pub trying : Trying atoms count vars cands counts at env keys₀ n s.start m keys

-- an atom is left
module _ {atoms : List ℕ} {count : ℕ} {vars cands counts : List ℕ} (p : Plan atoms count vars cands counts) {at : ℕ} (h : at ≤ count)
    (not-all : at ≡ count → ⊥) {env : List ℕ} (b : Bindings env) where
  atom_left : at < count
  atom_left = omega (arith, h, not-all)

  -- what `rows_left` is given
  pub rows_given : KeyVariables (own_part atoms at) × Bindings env × InOrder ◌<◌ (rows_part cands counts at)
  rows_given = rw (own_is atoms cands counts at, rows_are atoms cands counts at) (p.variables at atom_left, b, p.ascending at atom_left)

  pub turn_start : Reaches atoms count vars cands counts at env → (keys : List ℕ) (n : ℕ) → n ≤ length keys → InOrder ◌<◌ (take n keys)
      → (s : Range ℕ) → SpanOf s (own_part atoms at) env (rows_part cands counts at) → Turn atoms count vars cands counts at env keys n s.start s.end s n keys
  turn_start f keys n k o s q =
      let w : SpanOf s (variables_at atoms at) env (candidates_at cands counts at) = rw (own_is atoms cands counts at, rows_are atoms cands counts at) at q in
      record { plan = p; left = atom_left; bindings = b; reaches = f; span = w; ends = refl; trying = trying_start p atom_left keys n k o w }

-- one turn: the range gives its start, and moves past it
abbrev pub Next : Range ℕ → ℕ → Range ℕ → Type 0
Next s x s' = (s'.end ≡ s.end) × ((0 < s.end - s.start) × (x ≡ s.start) × (s'.start ≡ s.start + 1))

module _ {atoms : List ℕ} {count : ℕ} {vars cands counts : List ℕ} {at : ℕ} {env keys₀ : List ℕ} {n from to m : ℕ} {s : Range ℕ} {keys : List ℕ}
    (t : Turn atoms count vars cands counts at env keys₀ n from to s m keys) where
  turn : {s' : Range ℕ} {m' : ℕ} {keys' : List ℕ} → s'.end ≡ s.end → Trying atoms count vars cands counts at env keys₀ n s'.start m' keys'
      → Turn atoms count vars cands counts at env keys₀ n from to s' m' keys'
  turn e w = record { plan = t.plan; left = t.left; bindings = t.bindings; reaches = t.reaches; span = t.span; ends = e ∙ t.ends; trying = w }

  pub turn_room : (m ≤ length keys) × InOrder ◌<◌ (take m keys)
  turn_room = (omega (arith, t.trying.long, t.trying.grown.room), t.trying.grown.list.ascending)

  pub turn_done : s.end - s.start ≡ 0 → GrownTo m keys₀ n (Solution atoms count vars cands counts at env) keys
  turn_done h = trying_done t.plan t.left t.trying t.span (omega (arith, h, t.ends))

  module _ {r : ℕ} {s' : Range ℕ} (g : Next s r s') where
    turn_counted : r < get_or counts at 0
    turn_counted = span_counted t.plan t.left t.span (omega (arith, g.1, t.ends))

    pub turn_bounds : Bounds atoms cands counts at × (r < get_or counts at 0)
    turn_bounds = (bounds t.plan (omega (arith, t.left)) (λ e. omega (arith, t.left, e)), turn_counted)

    -- the row has its place among the atom's
    pub turn_row : r < length (rows_part cands counts at)
    turn_row = rw (rows_are atoms cands counts at) (omega (arith, rows_length t.plan t.left, turn_counted))

    abbrev row : ℕ
    row = get_or (rows_part cands counts at) r 0

    row_is : row ≡ get_or cands (at * max_rows + s.start) 0
    row_is = rw (rows_are atoms cands counts at) (row_at t.plan t.left r turn_counted) ∙ ap (λ i. get_or cands (at * max_rows + i) 0) g.1.1

    turn_small : row < max_values ^ length (variables_at atoms at)
    turn_small = rw row_is (row_small t.plan t.left s.start (rw g.1.1 at turn_counted))

    -- what `bind_row` is given
    pub turn_given : KeyVariables (own_part atoms at) × (row < max_values ^ length (own_part atoms at)) × Bindings env
    turn_given = rw (own_is atoms cands counts at) (t.plan.variables at t.left, turn_small, t.bindings)

    module _ (b : Bool) (next : List ℕ) (w : RowBound b (own_part atoms at) row env next) where
      says : RowBound b (variables_at atoms at) (get_or cands (at * max_rows + s.start) 0) env next
      says = rw (own_is atoms cands counts at, row_is) at w

      pub turn_bound : b ≡ true → RowBindings (variables_at atoms at) (get_or cands (at * max_rows + s.start) 0) env next
      turn_bound e = rw e at says

      pub turn_skip : b ≡ false → Turn atoms count vars cands counts at env keys₀ n from to s' m keys
      turn_skip e = turn g.0 (rw g.1.2 (trying_skip t.plan t.left t.trying (rw e at says)))

    module _ {next : List ℕ} (w : RowBindings (variables_at atoms at) (get_or cands (at * max_rows + s.start) 0) env next) where
      counted : s.start < get_or counts at 0
      counted = rw g.1.1 at turn_counted

      pub turn_reaches : Reaches atoms count vars cands counts (at + 1) next
      turn_reaches = reaches_next t.plan t.left t.trying counted w t.reaches

      pub turn_more : {m' : ℕ} {keys' : List ℕ} → GrownTo m' keys m (Solution atoms count vars cands counts (at + 1) next) keys' → length keys' ≡ length keys
          → Turn atoms count vars cands counts at env keys₀ n from to s' m' keys'
      turn_more h e = turn g.0 (rw g.1.2 (trying_more t.plan t.left t.trying counted w h e))

      pub turn_over : GrownOver keys m (Solution atoms count vars cands counts (at + 1) next) → GrownOver keys₀ n (Solution atoms count vars cands counts at env)
      turn_over h = trying_over t.plan t.left t.trying counted w h
