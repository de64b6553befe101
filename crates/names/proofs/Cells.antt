-- A row's numbers, and whether it is good. Assumes nothing.
use borrow.Author.Tests.{le-ltb, ne_eqb}
use lib.Dec.{eqb, eqb-suc-suc, ltb}
use lib.ListN.{drop, get_or, get_elem?, length, length-append, length-take, replicate, take}
use lib.Seq.{length-take-le, slice, take-take}
use mathlib.Core.Bool.{Bool, true, false, ◌&&◌}
use mathlib.Core.List.{List, [], ◌∷◌, ◌++◌}
use mathlib.Core.Option.{some}
use mathlib.Core.Path.{◌≡◌, refl, sym, ap, ◌∙◌}
use native.Mathlib.Omega.{arith}
use Prim.Native.Nat.{ℕ, zero, suc, ◌+◌, ◌*◌, ◌≤◌, ◌<◌}
use Rattle.meaning.specs.Limits.{max_columns, max_rows, relations_at, row_width, unused}
use Rattle.meaning.specs.Member.{◌∈◌, here, there}
use Rattle.meaning.specs.Pack.{Pack, Row}
use Rattle.meaning.specs.Tables.{row_numbers}
use Rattle.meaning.specs.Tests.{every}
use Rattle.meaning.specs.WellFormed.{good_row}
use Rattle.meaning.proofs.Lists.Members.{element}
use Rattle.meaning.proofs.Lists.Places.{inside}
use Rattle.names.specs.PackGiven.{PackGiven, RowAt, SettingGiven}
use Rattle.names.proofs.Counted.{arity_none, arity_small, arity_there, count_at_lem}
use Rattle.meaning.proofs.Lists.Parts.{first_is_at, part_of, slice_at}
use Rattle.meaning.proofs.Lists.Blocks.{flat_at, length_flat}

-- ---- the cells

abbrev pub below : ℕ → ℕ → Bool
below n v = ltb v n

abbrev pub spare : ℕ → Bool
spare v = eqb v unused

all_spare : (n p : ℕ) → n ≤ p → every spare (take n (replicate p unused)) ≡ true
all_spare zero p h = refl
all_spare (suc n) zero h = refl
all_spare (suc n) (suc p) h = all_spare n p (omega arith)

-- the first k cells are below n and the others unused: there are k, all below n
pub cells_good : (n : ℕ) → n ≤ unused → (cells : List ℕ) (k w p : ℕ) → k ≤ w → w ≤ p → length cells ≤ w → ((v : ℕ) → v ∈ cells → v < unused)
    → (every (below n) (take k (take w (cells ++ replicate p unused))) && every spare (drop k (take w (cells ++ replicate p unused))))
    ≡ (eqb (length cells) k && every (below n) cells)
cells_good n h [] zero w p a b c f = all_spare w p b
cells_good n h [] (suc k) zero p a b c f = elim a [ ]
cells_good n h [] (suc k) (suc w) zero a b c f = elim b [ ]
cells_good n h (x ∷ xs) zero zero p a b c f = elim c [ ]
cells_good n h (x ∷ xs) (suc k) zero p a b c f = elim a [ ]
cells_good n h [] (suc k) (suc w) (suc p) a b c f = rw (le-ltb unused n h, ne_eqb 0 (suc k) (λ e. omega arith))
cells_good n h (x ∷ xs) zero (suc w) p a b c f = rw (ne_eqb x unused (λ e. let q = f x (here refl) in omega arith), ne_eqb (suc (length xs)) 0 (λ e. omega arith))
cells_good n h (x ∷ xs) (suc k) (suc w) p a b c f =
    let l = take w (xs ++ replicate p unused) in
    rw (eqb-suc-suc (length xs) k)
    (moved (ltb x n) (every (below n) (take k l)) (every spare (drop k l)) (eqb (length xs) k) (every (below n) xs)
    (cells_good n h xs k w p (omega arith) (omega arith) (omega arith) (λ v m. f v (there m))))
  where
    no : (s : Bool) → false ≡ (s && false)
    no true = refl
    no false = refl

    moved : (q l r s t : Bool) → (l && r) ≡ (s && t) → ((q && l) && r) ≡ (s && (q && t))
    moved true l r s t e = e
    moved false l r s t e = no s

-- ---- a row

module _ {P : Pack} {counts numbers rows : List ℕ} (g : SettingGiven P counts numbers) {at : ℕ} {x : Row} (r : RowAt x rows at) where
  relation_is : get_or rows at 0 ≡ x.relation
  relation_is = first_is_at rows (row_numbers x) at row_width r.are (omega arith)

  pub no_relation : get_or counts 1 0 ≤ get_or rows at 0 → false ≡ good_row P x
  no_relation h = let i : get_or counts 1 0 ≤ x.relation = omega (arith, relation_is) in rw (arity_none g i)

  abbrev padded : List ℕ
  padded = take max_columns (x.cells ++ replicate max_columns unused)

  cells_from : (k : ℕ) → k ≤ max_columns → slice (at + 1) (at + 1 + k) rows ≡ take k padded
  cells_from k h =
      let e : at + 1 + k ≡ at + suc k = omega arith in
      ap (λ (i : ℕ). slice (at + 1) i rows) e ∙ slice_at rows (row_numbers x) at row_width r.are 1 (suc k) (omega arith)

  cells_after : (k : ℕ) → k ≤ max_columns → slice (at + 1 + k) (at + row_width) rows ≡ drop k padded
  cells_after k h =
      let e : at + 1 + k ≡ at + suc k = omega arith in
      ap (λ (i : ℕ). slice i (at + row_width) rows) e ∙ slice_at rows (row_numbers x) at row_width r.are (suc k) row_width (omega arith)
      ∙ ap (λ (t : List ℕ). drop k t) (take-take max_columns max_columns (x.cells ++ replicate max_columns unused) (omega arith))

  pub row_good : get_or rows at 0 < get_or counts 1 0 → {k : ℕ} → k ≡ get_or numbers (relations_at + get_or rows at 0) 0
      → (every (below (get_or counts 0 0)) (slice (at + 1) (at + 1 + k) rows) && every spare (slice (at + 1 + k) (at + row_width) rows)) ≡ good_row P x
  row_good h {k} e =
      let s : k ≤ max_columns = omega (arith, e, arity_small g h) in
      let n : get_or counts 0 0 ≡ length P.setting.values = count_at_lem g 0 (omega arith) in
      let a : get_elem? P.setting.arities x.relation ≡ some k = ap (λ (i : ℕ). get_elem? P.setting.arities i) (sym relation_is) ∙ arity_there g h ∙ ap some (sym e) in
      rw (cells_from k s, cells_after k s, a, ← n)
      (cells_good (get_or counts 0 0) (omega (arith, n, g.bounds.values)) x.cells k max_columns max_columns s (omega arith) r.bounds.short r.bounds.used)

  module _ (h : get_or rows at 0 < get_or counts 1 0) {k : ℕ} (e : k ≡ get_or numbers (relations_at + get_or rows at 0) 0) {b : Bool}
      (f : b ≡ every (below (get_or counts 0 0)) (slice (at + 1) (at + 1 + k) rows)) where
    pub row_stops : b ≡ false → false ≡ good_row P x
    row_stops z = rw (sym f ∙ z) at (row_good h e)

    pub row_ends : b ≡ true → {u : Bool} → u ≡ every spare (slice (at + 1 + k) (at + row_width) rows) → u ≡ good_row P x
    row_ends z q = q ∙ rw (sym f ∙ z) at (row_good h e)

-- ---- a pack's rows

length_row : (x : Row) → length (row_numbers x) ≡ row_width
length_row x = ap suc (length-take-le max_columns (x.cells ++ replicate max_columns unused) (omega (arith, length-append x.cells (replicate max_columns unused))))

module _ {P : Pack} {counts numbers rows : List ℕ} (g : PackGiven P counts numbers rows) where
  pub rows_long : row_width * length P.rows ≤ length rows
  rows_long =
      omega (arith, length-take (row_width * length P.rows) rows, ap (λ (t : List ℕ). length t) g.holds_rows.are, length_flat row_numbers row_width length_row P.rows)

  pub row_room : (i : ℕ) → i < get_or counts 8 0 → i * row_width + row_width ≤ length rows
  row_room i h = omega (arith, rows_long, g.many)

  pub rows_few : get_or counts 8 0 ≤ max_rows
  rows_few = omega (arith, g.many, g.setting.bounds.rows)

  pub row_at : (i : ℕ) (x : Row) → get_elem? P.rows i ≡ some x → RowAt x rows (i * row_width)
  row_at i x e = record {
    are = part_of rows _ (row_width * length P.rows) (i * row_width) row_width g.holds_rows.are (omega (arith, inside P.rows i x e))
        ∙ flat_at row_numbers row_width length_row P.rows i x e;
    bounds = g.setting.bounds.row x (element P.rows i x e);
  }
