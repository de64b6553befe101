-- The atoms and rows that numbers hold, one by one. Assumes nothing.
use lib.ListN.{length, get_or, take, drop, length-take, length-drop}
use lib.Seq.{get_or-take, get_or-drop, ext_get_or}
use mathlib.Core.List.{List, [], ◌∷◌, map}
use mathlib.Core.Path.{◌≡◌, refl, sym, ap, ◌∙◌}
use native.Mathlib.Nat.{add-zero, not-suc-le-zero, le_of_suc-le-suc}
use native.Mathlib.Omega.{arith}
use Prim.Native.Nat.{ℕ, zero, suc, ◌+◌, ◌*◌, ◌≤◌, ◌<◌}
use Rattle.meaning.specs.Core.{Assignment}
use Rattle.meaning.specs.Pack.{Row, Atom}
use Rattle.meaning.specs.Tables.{row_numbers, atom_numbers}
use Rattle.matching.specs.Plan.{variables_at}
use Rattle.meaning.specs.Limits.{atom_width, max_columns, row_width, unused}
use Rattle.meaning.proofs.Lists.Blocks.{BlockAt}
use Rattle.meaning.proofs.Lists.Padding.{padded_front, padded_wide}
use Rattle.meaning.proofs.Lists.Parts.{number_at}

pub atom_wide : (a : Atom) → length (atom_numbers a) ≡ atom_width
atom_wide a = omega (arith, padded_wide max_columns 0 a.variables)

pub row_wide : (r : Row) → length (row_numbers r) ≡ row_width
row_wide r = omega (arith, padded_wide max_columns unused r.cells)

module _ {numbers : List ℕ} {j : ℕ} {a : Atom} (b : BlockAt atom_numbers atom_width atom_wide numbers j a) (short : length a.variables ≤ max_columns) where
  pub atom_relation : get_or numbers (j * atom_width) 0 ≡ a.relation
  atom_relation = rw add-zero at (number_at numbers (atom_numbers a) (j * atom_width) atom_width b.is 0 (omega arith))

  pub atom_count : get_or numbers (j * atom_width + 1) 0 ≡ length a.variables
  atom_count = number_at numbers (atom_numbers a) (j * atom_width) atom_width b.is 1 (omega arith)

  pub atom_variables : variables_at numbers j ≡ a.variables
  atom_variables = rw atom_count (ext_get_or 0 (take (length a.variables) (drop (j * atom_width + 2) numbers)) a.variables long same)
    where
      long : length (take (length a.variables) (drop (j * atom_width + 2) numbers)) ≡ length a.variables
      long = omega (
        arith,
        short,
        ap length b.is,
        atom_wide a,
        length-take atom_width (drop (j * atom_width) numbers),
        length-drop (j * atom_width) numbers,
        length-take (length a.variables) (drop (j * atom_width + 2) numbers),
        length-drop (j * atom_width + 2) numbers,
      )

      same : (c : ℕ) → c < length (take (length a.variables) (drop (j * atom_width + 2) numbers))
          → get_or (take (length a.variables) (drop (j * atom_width + 2) numbers)) c 0 ≡ get_or a.variables c 0
      same c h =
          let l : c < length a.variables = omega (arith, h, long) in
          let e : j * atom_width + 2 + c ≡ j * atom_width + suc (suc c) = omega arith in
          get_or-take (length a.variables) (drop (j * atom_width + 2) numbers) c 0 l ∙ get_or-drop (j * atom_width + 2) numbers c 0
          ∙ ap (λ n. get_or numbers n 0) e
          ∙ number_at numbers (atom_numbers a) (j * atom_width) atom_width b.is (suc (suc c)) (omega (arith, l, short))
          ∙ sym (padded_front max_columns 0 a.variables c l (omega (arith, l, short)))

module _ {numbers : List ℕ} {j : ℕ} {r : Row} (b : BlockAt row_numbers row_width row_wide numbers j r) where
  pub row_relation : get_or numbers (j * row_width) 0 ≡ r.relation
  row_relation = rw add-zero at (number_at numbers (row_numbers r) (j * row_width) row_width b.is 0 (omega arith))

  pub row_cell : length r.cells ≤ max_columns → (c : ℕ) → c < length r.cells → get_or numbers (j * row_width + 1 + c) 0 ≡ get_or r.cells c 0
  row_cell short c h =
      let e : j * row_width + 1 + c ≡ j * row_width + suc c = omega arith in
      ap (λ n. get_or numbers n 0) e
      ∙ number_at numbers (row_numbers r) (j * row_width) row_width b.is (suc c) (omega (arith, h, short))
      ∙ sym (padded_front max_columns unused r.cells c h (omega (arith, h, short)))

  pub row_within : suc j * row_width ≤ length numbers
  row_within = omega (arith, ap length b.is, row_wide r, length-take row_width (drop (j * row_width) numbers), length-drop (j * row_width) numbers)

pub map_at : (σ : Assignment) (vs : List ℕ) (c : ℕ) → c < length vs → get_or (map σ vs) c 0 ≡ σ (get_or vs c 0)
map_at σ [] c h = absurd (not-suc-le-zero h)
map_at σ (v ∷ vs) zero h = refl
map_at σ (v ∷ vs) (suc c) h = map_at σ vs c (le_of_suc-le-suc h)

pub map_long : (σ : Assignment) (vs : List ℕ) → length (map σ vs) ≡ length vs
map_long σ [] = refl
map_long σ (v ∷ vs) = ap suc (map_long σ vs)
