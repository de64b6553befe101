-- Cells of the shape table, an array of arrays. Assumes nothing.
use Rattle.meaning.proofs.Cases.{case_on}
use borrow.Author.Tests.{eqb-false, eqb-true}
use Rattle.std.specs.Prelude.{◌≡◌, ℕ, ◌<◌, cond, eqb, List, [], length, get_or, set}
use lib.ListN.{length-set}
use lib.Seq.{get_or-set_other, get_or-set_same}
use mathlib.Core.Path.{sym, ap, ◌∙◌}
use native.Mathlib.Omega.{arith}
use Rattle.meaning.specs.Limits.{max_predicates, max_types}
use Rattle.meaning.specs.Tables.{cell_at}
use Rattle.tables.specs.Tables.{put_first}

-- a row for each type, with a cell for each predicate
pub record Square (table : List (List ℕ)) : Type 0 where
  pub rows : length table ≡ max_types
  pub cells : (t : ℕ) → t < max_types → length (get_or table t []) ≡ max_predicates

module _ (table : List (List ℕ)) (o q v : ℕ) (w : Square table) (ho : o < max_types) (hq : q < max_predicates) where
  abbrev put : List (List ℕ)
  put = set table o (set (get_or table o []) q v)

  row_same : get_or put o [] ≡ set (get_or table o []) q v
  row_same = get_or-set_same table o _ [] (omega (arith, w.rows))

  row_other : (t : ℕ) → (t ≡ o → ⊥) → get_or put t [] ≡ get_or table t []
  row_other t n = get_or-set_other table o t _ [] n

  pub cell_same : cell_at (set table o (set (get_or table o []) q v)) o q ≡ v
  cell_same = rw row_same (get_or-set_same (get_or table o []) q v 0 (omega (arith, w.cells o ho)))

  pub cell_other : (t p : ℕ) → ((t ≡ o) × (p ≡ q) → ⊥) → cell_at (set table o (set (get_or table o []) q v)) t p ≡ cell_at table t p
  cell_other t p n =
      case_on (eqb t o)
      (λ e.
      let k : t ≡ o = eqb-true t o e in
      rw (k, row_same) (get_or-set_other (get_or table o []) q p v 0 (λ (h : p ≡ q). n (k, h))))
      (λ e. ap (λ (r : List ℕ). get_or r p 0) (row_other t (eqb-false t o e)))

  put_square : Square put
  put_square = record {
    rows = length-set table o _ ∙ w.rows;
    cells = λ t h.
        case_on (eqb t o)
        (λ e. let k : t ≡ o = eqb-true t o e in rw (k, row_same) (length-set (get_or table o []) q v ∙ w.cells o ho))
        (λ e. rw (row_other t (eqb-false t o e)) (w.cells t h));
  }

  pub put_first_square : Square (put_first o q v table)
  put_first_square = case_on (eqb (cell_at table o q) 0) (λ e. rw e put_square) (λ e. rw e w)

-- x, or y where x is 0
abbrev pub or_else : ℕ → ℕ → ℕ
or_else x y = cond (eqb x 0) y x

pub or_else_zero : (x : ℕ) → or_else x 0 ≡ x
or_else_zero x = case_on (eqb x 0) (λ e. rw e (sym (eqb-true x 0 e))) (λ e. rw e)
