-- Laws of a row's cells: each is that of its variable's first column, or the row is not the atom's. Assumes nothing.
use lib.ListN.{length, get_or}
use mathlib.Core.List.{List}
use mathlib.Core.Path.{◌≡◌, sym, ap, ◌∙◌}
use native.Mathlib.Omega.{arith}
use Prim.Native.Nat.{ℕ, ◌+◌, ◌*◌, ◌/◌, ◌≤◌, ◌<◌}
use Rattle.meaning.specs.Core.{Assignment}
use Rattle.meaning.specs.Member.{◌∈◌}
use Rattle.matching.specs.Plan.{Among, CellsAre, column_of, FirstColumns, ColumnsBytes, ColumnsAre, RowsBytes, KeyVariables}
use Rattle.matching.proofs.FirstColumn.{column_has}
use Rattle.meaning.specs.Limits.{row_width}
use Rattle.meaning.proofs.Lists.Places.{∈_at}
use Rattle.meaning.proofs.Lists.Below.{below_next}

-- each variable has the cell of its first column
abbrev pub cell_of : List ℕ → ℕ → List ℕ → Assignment
cell_of rows place own v = get_or rows (place + column_of own v) 0

-- no other assignment makes the atom this row
pub cells_same : (rows : List ℕ) (place : ℕ) (own : List ℕ) (σ : Assignment) → CellsAre rows place own σ → (v : ℕ) → v ∈ own → σ v ≡ cell_of rows place own v
cells_same rows place own σ f v m = let q = column_has m in sym (f _ q.0 ∙ ap σ q.1)

-- ---- column by column

-- the first c cells are those of their variables' first columns
pub record Cells (rows : List ℕ) (place : ℕ) (firsts : List ℕ) (c : ℕ) : Type 0 where
  pub same : (d : ℕ) → d < c → get_or rows (place + d) 0 ≡ get_or rows (place + get_or firsts d 0) 0

pub cells_start : (rows : List ℕ) (place : ℕ) (firsts : List ℕ) → Cells rows place firsts 0
cells_start rows place firsts = record { same = λ d h. absurd (omega (arith, h)) }

pub cells_again : {rows : List ℕ} {place : ℕ} {firsts : List ℕ} {c : ℕ} → Cells rows place firsts c
    → get_or rows (place + c) 0 ≡ get_or rows (place + get_or firsts c 0) 0 → Cells rows place firsts (c + 1)
cells_again {rows} {place} {firsts} i e = record { same = below_next {Q = λ d. get_or rows (place + d) 0 ≡ get_or rows (place + get_or firsts d 0) 0} i.same e }

module _ {rows : List ℕ} {place : ℕ} {own firsts : List ℕ} {c : ℕ} (f : FirstColumns own own firsts) (i : Cells rows place firsts c) where
  first_is : (d : ℕ) → d < length own → get_or rows (place + get_or firsts d 0) 0 ≡ cell_of rows place own (get_or own d 0)
  first_is d h = ap (λ x. get_or rows (place + x) 0) (f.are d h)

  pub cells_differ : c < length own → (get_or rows (place + c) 0 ≡ get_or rows (place + get_or firsts c 0) 0 → ⊥) → (σ : Assignment) → CellsAre rows place own σ → ⊥
  cells_differ h n σ g = n (g c h ∙ cells_same rows place own σ g _ (∈_at own c h) ∙ sym (first_is c h))

  pub cells_done : length own ≤ c → CellsAre rows place own (cell_of rows place own)
  cells_done z d h = i.same d (omega (arith, h, z)) ∙ first_is d h

-- ---- the columns of variables of the atom

module _ {own order cols : List ℕ} (f : FirstColumns own order cols) where
  pub columns_are : (rows : List ℕ) (place : ℕ) → ColumnsAre rows place order cols (cell_of rows place own)
  columns_are rows place i h = ap (λ x. get_or rows (place + x) 0) (f.are i h)

  module _ (among : Among order own) where
    pub column_below : {i : ℕ} → i < length order → get_or cols i 0 < length own
    column_below {i} h = rw (f.are i h) (column_has (among _ (∈_at order i h))).0

    pub columns_bytes : KeyVariables own → {rows : List ℕ} {relation : ℕ} → RowsBytes rows relation (length own)
        → {r : ℕ} → r < length rows / row_width → get_or rows (r * row_width) 0 ≡ relation → ColumnsBytes rows (r * row_width + 1) cols (length order)
    columns_bytes v b {r} h e = record {
      within = λ i k. omega (arith, h, v.short, column_below k);
      small = λ i k. b.small r (omega (arith, h)) e _ (column_below k);
    }
