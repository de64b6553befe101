-- The rows and dependencies that numbers hold, one by one. Assumes nothing.
use lib.ListN.{drop, get_or, length, length-append, take}
use lib.Seq.{drop_at, drop-drop, get_or-drop, take_at}
use mathlib.Core.List.{List, [], ◌∷◌, ◌++◌, flat_map, map}
use mathlib.Core.Path.{◌≡◌, refl, sym, ap, ◌∙◌}
use native.Mathlib.Numerals.{add-one}
use native.Mathlib.Omega.{arith}
use Prim.Native.Nat.{ℕ, zero, suc, ◌+◌, ◌*◌, ◌/◌, ◌<◌}
use Rattle.meaning.specs.Limits.{dependency_width, max_columns, row_width}
use Rattle.meaning.specs.Pack.{Dependency, Row}
use Rattle.meaning.specs.Tables.{row_numbers, RowsHeld}
use Rattle.meaning.proofs.Lists.Places.{drop_entry, there_is}
use Rattle.depends.specs.Answer.{DependenciesHeld}
use Rattle.depends.specs.Keys.{columns_at, low}
use Rattle.depends.proofs.Agreeing.{padded, padded_long}
use Rattle.meaning.proofs.Lists.Parts.{number_at}

row_long : (x : Row) → length (row_numbers x) ≡ row_width
row_long x = ap suc (padded_long x.cells)

rows_long : (rs : List Row) → length (flat_map row_numbers rs) ≡ length rs * row_width
unfolding flat_map
rows_long [] = refl
rows_long (x ∷ xs) = length-append (row_numbers x) (flat_map row_numbers xs) ∙ omega (arith, row_long x, rows_long xs)

-- row i; the one without cells past the end
abbrev pub row_at : List Row → ℕ → Row
row_at rs i = get_or rs i (record { relation = 0; cells = [] })

rows_from : (rs : List Row) (i : ℕ) → i < length rs → drop (i * row_width) (flat_map row_numbers rs) ≡ row_numbers (row_at rs i) ++ flat_map row_numbers (drop (suc i) rs)
unfolding flat_map
rows_from [] i h = absurd (let z : ⊥ = omega (arith, h) in z)
rows_from (x ∷ xs) zero h = refl
rows_from (x ∷ xs) (suc i) h =
    let e : suc i * row_width ≡ row_width + i * row_width = omega arith in
    ap (λ n. drop n (row_numbers x ++ flat_map row_numbers xs)) e
    ∙ sym (drop-drop (i * row_width) row_width (row_numbers x ++ flat_map row_numbers xs))
    ∙ ap (drop (i * row_width)) (drop_at (row_numbers x) (flat_map row_numbers xs) row_width (row_long x))
    ∙ rows_from xs i (omega (arith, h))

module _ {rs : List Row} {rows : List ℕ} (held : RowsHeld rs rows) where
  pub rows_counted : length rows / row_width ≡ length rs
  rows_counted = omega (arith, ap length held.are, rows_long rs)

  module _ (i : ℕ) (h : i < length rs) where
    from : drop (i * row_width) rows ≡ row_numbers (row_at rs i) ++ flat_map row_numbers (drop (suc i) rs)
    from = ap (drop (i * row_width)) held.are ∙ rows_from rs i h

    pub relation_at : get_or rows (i * row_width) 0 ≡ (row_at rs i).relation
    relation_at =
        let e : i * row_width + 0 ≡ i * row_width = omega arith in
        ap (λ n. get_or rows n 0) (sym e) ∙ sym (get_or-drop (i * row_width) rows 0 0) ∙ ap (λ (l : List ℕ). get_or l 0 0) from

    pub columns_at_lem : columns_at rows (i * row_width + 1) ≡ map low (padded (row_at rs i).cells)
    unfolding columns_at
    columns_at_lem = ap (map low) (
        ap (take max_columns) (sym (drop-drop 1 (i * row_width) rows) ∙ ap (drop 1) from)
        ∙ take_at (padded (row_at rs i).cells) (flat_map row_numbers (drop (suc i) rs)) max_columns (padded_long (row_at rs i).cells))

-- ---- dependencies

-- dependency i of the numbers
abbrev pub dependency_at : List ℕ → ℕ → Dependency
dependency_at numbers i = record {
  relation = get_or numbers (i * dependency_width) 0;
  left = get_or numbers (i * dependency_width + 1) 0;
  right = get_or numbers (i * dependency_width + 2) 0;
}

module _ {ds : List Dependency} {numbers : List ℕ} (held : DependenciesHeld ds numbers) where
  pub dependencies_counted : length numbers / dependency_width ≡ length ds
  dependencies_counted = omega (arith, held.many)

  pub dependency_at_lem : (i : ℕ) → i < length ds → drop i ds ≡ dependency_at numbers i ∷ drop (i + 1) ds
  dependency_at_lem i h =
      let t = there_is ds i h in
      let x = t.0 in
      let a : i * dependency_width + 0 ≡ i * dependency_width = omega arith in
      let e : take dependency_width (drop (i * dependency_width) numbers) ≡ x.relation ∷ x.left ∷ x.right ∷ [] = held.held.each i x t.1 in
      let get : (k : ℕ) → k < dependency_width → get_or numbers (i * dependency_width + k) 0 ≡ get_or (x.relation ∷ x.left ∷ x.right ∷ []) k 0 =
      λ k l. number_at numbers (x.relation ∷ x.left ∷ x.right ∷ []) (i * dependency_width) dependency_width e k l in
      let r : x.relation ≡ get_or numbers (i * dependency_width) 0 = sym (rw a at (get 0 (omega arith))) in
      let is : x ≡ dependency_at numbers i = (λ j. record { relation = r j; left = sym (get 1 (omega arith)) j; right = sym (get 2 (omega arith)) j }) in
      rw (add-one i) (drop_entry ds i x t.1 ∙ ap (λ z. z ∷ drop (suc i) ds) is)
