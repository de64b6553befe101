-- `matching::candidates::candidates` meets its contract: the keys of the first r rows. Assumes nothing.
use borrow.Author.Rules.{rules}
use lib.ListN.{length, take}
use Rattle.matching.specs.Plan.{Candidate}
use mathlib.Core.Path.{refl, sym}
use Prim.Native.Nat.{◌≤◌, ◌<◌}
use Rattle.meaning.specs.Ordered.{ListOf}
use native.Mathlib.Omega.{arith}
use Rattle.matching.proofs.Cells.{cells_start, cells_again, cells_differ, column_below, columns_bytes}
use Rattle.matching.proofs.Collect.{collect_start, collect_other, collect_differ, collect_more, collect_done}
use Rattle.sets.proofs.Slices.{given_back, same_start, same_then}
use Rattle.matching.proofs.candidates.candidates.Goals as goal

pub columns-firsts-requires : goal.columns-firsts-requires
columns-firsts-requires c = c.requires.0.short

pub columns-cols-requires : goal.columns-cols-requires
columns-cols-requires c = c.requires.1.short

pub loop-c-init : goal.loop-c-init
loop-c-init c = cells_start _ _ _

pub overflow_add-at-in-loop-c-2 : goal.overflow_add-at-in-loop-c-2
overflow_add-at-in-loop-c-2 c = let pre = c.requires in
    let columns = c.columns-firsts in
    let rows-test = c.rows-test in
    omega (arith, rows-test.true, c.loop-c-test.true, pre.0.short, column_below columns.ensures (λ v m. m) c.loop-c-test.true)

pub offset_bounds-rows-at-in-loop-c : goal.offset_bounds-rows-at-in-loop-c
offset_bounds-rows-at-in-loop-c c = let pre = c.requires in
    let columns = c.columns-firsts in
    let rows-test = c.rows-test in
    omega (arith, rows-test.true, c.loop-c-test.true, pre.0.short, column_below columns.ensures (λ v m. m) c.loop-c-test.true)

pub bounds-rows-at-in-loop-c : goal.bounds-rows-at-in-loop-c
bounds-rows-at-in-loop-c c = let pre = c.requires in
    let columns = c.columns-firsts in
    let rows-test = c.rows-test in
    let loop-test = c.loop-c-test in
    omega (arith, rows-test.true, loop-test.true, pre.0.short, column_below columns.ensures (λ v m. m) loop-test.true)

pub loop-c-preserved : goal.loop-c-preserved
loop-c-preserved c = cells_again c.loop-c.invariant c.if-rows-at.false

pub row_key-key-requires : goal.row_key-key-requires
row_key-key-requires c = (
  c.requires.1,
  c.requires.3,
  columns_bytes c.columns-cols.ensures c.requires.2 c.requires.0 c.requires.4 c.rows-test.true
      c.if-rows-r.false,
  search rules,
)

pub store_next-requires : goal.store_next-requires
store_next-requires c = (omega (arith, c.rows.invariant.0.few, c.rows.invariant.0.long, c.rows-test.true, rw (sym c.empty-set.ensures.0) at c.requires.5), c.rows.invariant.0.recent)

pub returns : goal.returns
returns c = let a = c.args in
    let n = c.rows.set.count in
    given_back (λ out. (n ≤ length a.out.now) × ListOf ◌<◌ (Candidate a.rows.now a.relation a.own.now a.order.now a.start) (take n out)) c.rows.invariant.1 (search rules)
    (rw c.empty-set.ensures.0 at (collect_done _ _ _ _ _ c.rows.invariant.0 c.rows-test.false (rw (sym c.empty-set.ensures.0) at c.requires.5)))

pub rows-init : goal.rows-init
rows-init c = (rw c.empty-set.ensures.1 (collect_start _ _ _ _ _ _), same_start)

pub rows-preserved-then-rows-r : goal.rows-preserved-then-rows-r
rows-preserved-then-rows-r c = (collect_other _ _ _ _ _ c.rows.invariant.0 c.rows-test.true c.if-rows-r.true, c.rows.invariant.1)

pub rows-preserved-then-rows-at : goal.rows-preserved-then-rows-at
rows-preserved-then-rows-at c = (
  collect_differ _ _ _ _ _ c.rows.invariant.0 c.rows-test.true refl
      (cells_differ c.columns-firsts.ensures c.loop-c.invariant c.loop-c-test.true c.if-rows-at.true),
  c.rows.invariant.1,
)

pub rows-preserved : goal.rows-preserved
rows-preserved c =
    let s = c.store_next.ensures in (
      collect_more _ _ _ _ _ c.rows.invariant.0 c.rows-test.true refl c.requires.2 c.columns-firsts.ensures c.loop-c.invariant
          c.loop-c-test.false c.columns-cols.ensures _ c.row_key-key.ensures c.if-rows-r.false _ _ (s.0, s.1) s.2.long,
      same_then c.rows.invariant.1 s.2,
    )
