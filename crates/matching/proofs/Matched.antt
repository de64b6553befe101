-- The search finds a rule's heads, no more and no fewer: rows that agree on the columns that matter are interchangeable.
-- Assumes nothing.
use borrow.Author.Tests.{eq-eqb, ne_eqb, eqb-false}
use lib.Dec.{eqb}
use lib.Seq.{ext_get_or}
use lib.ListN.{length, get_or, take, replicate}
use mathlib.Core.List.Memᴰ.{map as ∈-map}
use mathlib.Core.List.{List, ◌++◌, map, foldl}
use mathlib.Core.Logic.{◌↔◌}
use mathlib.Core.Path.{◌≡◌, refl, sym, ap, ◌∙◌, subst}
use native.Mathlib.Decide.{ℕ_discrete}
use native.Mathlib.Nat.{mod-eq_of_lt}
use native.Mathlib.Omega.{arith}
use Prim.Native.Nat.{ℕ, zero, suc, ◌+◌, ◌*◌, ◌%◌, ◌≤◌, ◌<◌, zero-le}
use Rattle.meaning.specs.Core.{Assignment, Matches, row_of}
use Rattle.meaning.specs.Limits.{atom_width, max_values, max_variables, row_width, unused}
use Rattle.meaning.specs.Member.{◌∈◌}
use Rattle.meaning.specs.Pack.{Row, Atom}
use Rattle.meaning.specs.Tables.{packed, row_numbers, atom_numbers}
use Rattle.meaning.proofs.Lists.Members.{map_same, ∈_dec}
use Rattle.meaning.proofs.Lists.Places.{zeros_at, ∈_at, ∈_index}
use Rattle.meaning.proofs.Cases.{case_on}
use Rattle.matching.specs.Plan.{stacked, masked, variables_at, variables_from, candidates_at, marked, Bound, Bindings, SameVariables, Prepared, Solution}
use Rattle.matching.specs.Rule.{RuleHeld, HeadKey}
use Rattle.matching.proofs.Bytes.{stacked_same}
use Rattle.matching.proofs.HeldNumbers.{atom_wide, row_wide, atom_relation, atom_variables, row_relation, row_cell, row_within, map_at, map_long}
use Rattle.matching.proofs.Marked.{times, marks_once, marks_small, marks_long}
use Rattle.matching.proofs.Occurrences.{times_append, times_in, from_in, from_twice}
use Rattle.meaning.proofs.Lists.Blocks.{BlockAt, block_at, block_of, length_flat, whole}

-- one of two numbers
unfoldable pick : {A : Type 0} → Dec A → ℕ → ℕ → ℕ
pick (yes m) x y = x
pick (no n) x y = y

pick_first : {A : Type 0} (d : Dec A) (x y : ℕ) → A → pick d x y ≡ x
unfolding pick
pick_first (yes m) x y a = refl
pick_first (no n) x y a = absurd (n a)

pick_second : {A : Type 0} (d : Dec A) (x y : ℕ) → (A → x ≡ y) → pick d x y ≡ y
unfolding pick
pick_second (yes m) x y f = f m
pick_second (no n) x y f = refl

module _ {rows : List Row} {atoms : List Atom} {vars rowN atomN : List ℕ} {count : ℕ} {varN : List ℕ} {varCount : ℕ}
    (h : RuleHeld rows atoms vars rowN atomN count varN varCount) where
  -- atom j, and the place of an atom
  pub atom_at : (j : ℕ) → j < count → (a : Atom) × (a ∈ atoms) × BlockAt atom_numbers atom_width atom_wide atomN j a
  atom_at j l = block_at atom_numbers atom_width atom_wide atoms atomN h.atoms_held.are j (rw h.atoms_counted at l)

  pub atom_of : (a : Atom) → a ∈ atoms → (j : ℕ) × (j < count) × BlockAt atom_numbers atom_width atom_wide atomN j a
  atom_of a m = let r = block_of atom_numbers atom_width atom_wide atoms atomN h.atoms_held.are a m in (r.0, rw h.atoms_counted r.1, r.2)

  pub rows_long : length rowN ≡ length rows * row_width
  rows_long = ap length h.rows_held.are ∙ length_flat row_numbers row_width row_wide rows

  pub row_at : (r : ℕ) → suc r * row_width ≤ length rowN → (x : Row) × (x ∈ rows) × BlockAt row_numbers row_width row_wide rowN r x
  row_at r l = block_at row_numbers row_width row_wide rows rowN (whole row_numbers row_width row_wide rows rowN h.rows_held.are) r (omega (arith, l, rows_long))

  pub row_of_lem : (x : Row) → x ∈ rows → (r : ℕ) × (r < length rows) × BlockAt row_numbers row_width row_wide rowN r x
  row_of_lem x m = block_of row_numbers row_width row_wide rows rowN (whole row_numbers row_width row_wide rows rowN h.rows_held.are) x m

  module _ (orders : List ℕ) {start : List ℕ} (s : start ≡ foldl marked (replicate max_variables 0) (variables_from orders 0 count ++ take varCount varN)) where
    pub start_bindings : Bindings start
    start_bindings = record {
      long = ap length s ∙ marks_long (replicate max_variables 0) (variables_from orders 0 count ++ take varCount varN);
      small = λ v b. rw s (marks_small v (replicate max_variables 0) (variables_from orders 0 count ++ take varCount varN) (λ n. omega (arith, zeros_at max_variables v)) (rw s at b));
    }

  module _ {orders start cands counts : List ℕ} (t : SameVariables atomN orders count) (s : start ≡ foldl marked (replicate max_variables 0) (variables_from orders 0 count ++ take varCount varN))
      (p : Prepared rowN atomN orders start count cands counts) where
    once : (v : ℕ) → v < max_variables → Bound start v → times v (variables_from orders 0 count) + times v (take varCount varN) ≤ 1
    once v l b =
        let o = marks_once v (replicate max_variables 0) (variables_from orders 0 count ++ take varCount varN) l (rw s at b) in
        omega (arith, o.once, times_append v (variables_from orders 0 count) (take varCount varN))

    -- an atom's variables, as the numbers hold them
    own_is : (j : ℕ) (l : j < count) → variables_at atomN j ≡ (atom_at j l).0.variables
    own_is j l = let a = atom_at j l in atom_variables a.2 (h.short a.0 a.1)

    own_below : (j : ℕ) → j < count → (v : ℕ) → v ∈ variables_at atomN j → v < max_variables
    own_below j l v m = let a = atom_at j l in h.variables a.0 a.1 v (subst (λ (l : List ℕ). v ∈ l) (own_is j l) m)

    -- a variable that occurs twice matters
    often_open : (v : ℕ) → v < max_variables → 2 ≤ times v (variables_from orders 0 count) + times v (take varCount varN) → get_or start v 0 ≡ unused
    often_open v l o = go (ℕ_discrete (get_or start v 0) unused)
      where
        go : Dec (get_or start v 0 ≡ unused) → get_or start v 0 ≡ unused
        go (yes e) = e
        go (no n) = absurd (omega (arith, o, once v l n))

    -- so does a head's
    head_open : (v : ℕ) → v ∈ vars → get_or start v 0 ≡ unused
    head_open v m =
        let b = h.bound v m in
        let j = atom_of b.0 b.1 in
        let in_atom : v ∈ variables_at atomN j.0 = subst (λ (l : List ℕ). v ∈ l) (sym (atom_variables j.2 (h.short b.0 b.1))) b.2 in
        let x = times_in v (from_in orders 0 count j.0 v zero-le (omega (arith, j.1)) ((t.same j.0 j.1 v).1 in_atom)) in
        let y = times_in v (subst (λ (l : List ℕ). v ∈ l) (sym h.vars_held) m) in
        often_open v (h.variables b.0 b.1 v b.2) (omega (arith, x, y))

    -- and one of two atoms
    shared_open : (i j : ℕ) → i < j → j < count → (v : ℕ) → v ∈ variables_at atomN i → v ∈ variables_at atomN j → get_or start v 0 ≡ unused
    shared_open i j k l v x y =
        let u : i < count = omega (arith, k, l) in
        let o = from_twice orders 0 count i j v zero-le k (omega (arith, l)) ((t.same i u v).1 x) ((t.same j l v).1 y) in
        often_open v (own_below j l v y) (omega (arith, o))

    -- ---- every head is found

    module _ {k : ℕ} (g : HeadKey rows atoms vars k) where
      abbrev σ : Assignment
      σ v = g.values v % max_values

      matched : (a : Atom) → a ∈ atoms → row_of g.values a ∈ rows
      unfolding Matches
      matched a m = g.matches a m

      byte : (a : Atom) → a ∈ atoms → (v : ℕ) → v ∈ a.variables → g.values v < max_values
      byte a m v i = h.values (row_of g.values a) (matched a m) (g.values v) (∈-map g.values i)

      found_small : (v : ℕ) → masked start σ v < max_values
      found_small v = case_on (eqb (get_or start v 0) unused) (λ e. rw e (omega arith)) (λ e. rw e ((start_bindings orders s).small v (eqb-false (get_or start v 0) unused e)))

      found_fits : (j : ℕ) → j < count → stacked (map (masked start σ) (variables_at orders j)) ∈ candidates_at cands counts j
      found_fits j l =
          let a = atom_at j l in
          let x = row_of_lem (row_of g.values a.0) (matched a.0 a.1) in
          let short = h.short a.0 a.1 in
          let long : length (map g.values a.0.variables) ≡ length a.0.variables = map_long g.values a.0.variables in
          let cell : (c : ℕ) → c < length a.0.variables → get_or rowN (x.0 * row_width + 1 + c) 0 ≡ σ (get_or a.0.variables c 0) =
          λ c u. row_cell x.2 (omega (arith, long, short)) c (omega (arith, long, u)) ∙ map_at g.values a.0.variables c u
          ∙ sym (mod-eq_of_lt (byte a.0 a.1 _ (∈_at a.0.variables c u))) in
          ((p.list j l).members _).1 (record {
            index = x.0;
            within = row_within x.2;
            relation_is = row_relation x.2 ∙ sym (atom_relation a.2 short);
            values = σ;
            cells = rw (own_is j l) cell;
            is = refl;
          })

      pub head_found : Solution orders count (take varCount varN) cands counts 0 start k
      head_found = record {
        values = masked start σ;
        small = found_small;
        extends = record { at = λ v b. rw (ne_eqb _ _ b) };
        fits = λ j z l. found_fits j l;
        is = g.is ∙ ap packed (map_same g.values (masked start σ) vars same ∙ ap (λ (l : List ℕ). map (masked start σ) l) (sym h.vars_held));
      }
        where
          same : (v : ℕ) → v ∈ vars → g.values v ≡ masked start σ v
          same v m =
              let b = h.bound v m in
              rw (eq-eqb _ _ (head_open v m)) (sym (mod-eq_of_lt (byte b.0 b.1 v b.2)))

    -- ---- what is found is a head

    module _ {k : ℕ} (g : Solution orders count (take varCount varN) cands counts 0 start k) where
      -- atom j under the assignment is a row, and the variables that matter have their values
      record RowThere (j : ℕ) (τ : Assignment) : Type 0 where
        row : Row
        member : row ∈ rows
        relation_is : row.relation ≡ get_or atomN (j * atom_width) 0
        cells : row.cells ≡ map τ (variables_at atomN j)
        agree : (v : ℕ) → v ∈ variables_at atomN j → get_or start v 0 ≡ unused → τ v ≡ g.values v

      -- another assignment that is the same on the atom's variables
      there_too : {j : ℕ} {ρ τ : Assignment} → ((v : ℕ) → v ∈ variables_at atomN j → τ v ≡ ρ v) → RowThere j ρ → RowThere j τ
      there_too {j} {ρ} {τ} e r = record {
        row = r.row;
        member = r.member;
        relation_is = r.relation_is;
        cells = r.cells ∙ sym (map_same τ ρ (variables_at atomN j) e);
        agree = λ v m u. e v m ∙ r.agree v m u;
      }

      chosen : (j : ℕ) → j < count → (ρ : Assignment) × RowThere j ρ
      chosen j l =
          let a = atom_at j l in
          let d = ((p.list j l).members _).0 (g.fits j zero-le l) in
          let x = row_at d.index d.within in
          let own = own_is j l in
          let short = h.short a.0 a.1 in
          let rel : x.0.relation ≡ get_or atomN (j * atom_width) 0 = sym (row_relation x.2) ∙ d.relation_is in
          let long : length x.0.cells ≡ length a.0.variables = h.arities x.0 x.1 a.0 a.1 (rel ∙ atom_relation a.2 short) in
          let size : length (variables_at atomN j) ≡ length a.0.variables = ap length own in
          let cell : (c : ℕ) → c < length (variables_at atomN j) → get_or x.0.cells c 0 ≡ d.values (get_or (variables_at atomN j) c 0) =
          λ c u. sym (row_cell x.2 (omega (arith, long, short)) c (omega (arith, u, size, long))) ∙ d.cells c u in
          let small : (v : ℕ) → v ∈ variables_at atomN j → d.values v < max_values =
          λ v m. let q = ∈_index m in
          subst (λ w. d.values w < max_values) q.2
          (subst (λ y. y < max_values) (cell q.0 q.1) (h.values x.0 x.1 _ (∈_at x.0.cells q.0 (omega (arith, q.1, size, long)))))
          in (
            d.values,
            record {
              row = x.0;
              member = x.1;
              relation_is = rel;
              cells = ext_get_or 0 x.0.cells (map d.values (variables_at atomN j)) (omega (arith, long, size, map_long d.values (variables_at atomN j)))
                  (λ c u. let w : c < length (variables_at atomN j) = omega (arith, u, long, size) in cell c w ∙ sym (map_at d.values (variables_at atomN j) c w));
              agree = λ v m u. sym (stacked_same g.values (masked start d.values) (variables_at orders j) (λ w n. g.small w)
                  (λ w n. masked_small d.values w (small w ((t.same j l w).0 n))) d.is v ((t.same j l v).1 m) ∙ rw (eq-eqb _ _ u));
            },
          )
        where
          masked_small : (ρ : Assignment) (v : ℕ) → ρ v < max_values → masked start ρ v < max_values
          masked_small ρ v b = case_on (eqb (get_or start v 0) unused) (λ e. rw e b) (λ e. rw e ((start_bindings orders s).small v (eqb-false (get_or start v 0) unused e)))

      -- one assignment for the atoms from i on
      record Merged (i n : ℕ) : Type 0 where
        values : Assignment
        there_is : (j : ℕ) → i ≤ j → j < i + n → RowThere j values

      merged : (i n : ℕ) → i + n ≤ count → Merged i n
      merged i zero l = record { values = λ v. 0; there_is = λ j u w. absurd (omega (arith, u, w)) }
      merged i (suc n) l = go (chosen i (omega (arith, l))) (merged (suc i) n (omega (arith, l)))
        where
          go : (ρ : Assignment) × RowThere i ρ → Merged (suc i) n → Merged i (suc n)
          go c f = record { values = τ; there_is = λ j u w. at j u w (ℕ_discrete j i) }
            where
              τ : Assignment
              τ v = pick (∈_dec ℕ_discrete v (variables_at atomN i)) (c.0 v) (f.values v)

              first : (v : ℕ) → v ∈ variables_at atomN i → τ v ≡ c.0 v
              first v m = pick_first (∈_dec ℕ_discrete v (variables_at atomN i)) (c.0 v) (f.values v) m

              at : (j : ℕ) → i ≤ j → j < i + suc n → Dec (j ≡ i) → RowThere j τ
              at j u w (yes e) = rw e (there_too first c.1)
              at j u w (no d) =
                  let r = f.there_is j (omega (arith, u, d)) (omega (arith, w)) in
                  there_too (λ v m. pick_second (∈_dec ℕ_discrete v (variables_at atomN i)) (c.0 v) (f.values v)
                  (λ x. let o = shared_open i j (omega (arith, u, d)) (omega (arith, w, l)) v x m in c.1.agree v x o ∙ sym (r.agree v m o))) r

      all : Merged 0 count
      all = merged 0 count (omega arith)

      row_is : (a : Atom) → a ∈ atoms → row_of all.values a ∈ rows
      row_is a m =
          let j = atom_of a m in
          let short = h.short a m in
          let r = all.there_is j.0 zero-le (omega (arith, j.1)) in
          let cells : map all.values a.variables ≡ r.row.cells = ap (λ (l : List ℕ). map all.values l) (sym (atom_variables j.2 short)) ∙ sym r.cells in
          let relation : a.relation ≡ r.row.relation = sym (r.relation_is ∙ atom_relation j.2 short) in
          subst (λ (x : Row). x ∈ rows) (sym (λ i. record { relation = relation i; cells = cells i })) r.member

      pub found_head : HeadKey rows atoms vars k
      unfolding Matches
      found_head = record {
        values = all.values;
        matches = λ a m. row_is a m;
        is = g.is ∙ ap packed (ap (λ (l : List ℕ). map g.values l) h.vars_held ∙ map_same g.values all.values vars (λ v m. sym (value v m)));
      }
        where
          value : (v : ℕ) → v ∈ vars → all.values v ≡ g.values v
          value v m =
              let b = h.bound v m in
              let j = atom_of b.0 b.1 in
              let own = atom_variables j.2 (h.short b.0 b.1) in
              (all.there_is j.0 zero-le (omega (arith, j.1))).agree v (subst (λ (l : List ℕ). v ∈ l) (sym own) b.2) (head_open v m)

    pub heads_iff : (k : ℕ) → Solution orders count (take varCount varN) cands counts 0 start k ↔ HeadKey rows atoms vars k
    heads_iff k = (found_head, head_found)
