-- `add_heads` meets its contract: the rows of the span before r are tried. Assumes nothing.
use native.Mathlib.Omega.{arith}
use Rattle.std.proofs.lemmas.Result.{err_from_is_err_and}
use Rattle.matching.proofs.Grown.{grown_by}
use Rattle.matching.proofs.Rows.{leaf_iff, settled_same}
use Rattle.matching.proofs.Rows.{turn_bound, turn_bounds, turn_done, turn_given, turn_more, turn_over, turn_row, turn_skip, turn_start}
use Rattle.sets.proofs.Slices.{same_start, same_then}
use Rattle.matching.proofs.search.+add_heads.Goals as goal

pub returns-then-at-atom_count : goal.returns-then-at-atom_count
returns-then-at-atom_count t c =
    let g = c.requires in
    grown_by c.add_head.result _ _ (leaf_iff _ _ _ _ _ _ _ g.2 g.3 c.if-at-atom_count.true) c.add_head.ensures

pub returns-then-settled : goal.returns-then-settled
returns-then-settled t c = let s = c.args.set.now in
    (settled_same _ _ _ _ _ _ _ _ _ s.fits s.ascending (rw c.members.ensures at c.if-settled.ensures), same_start)

pub loop-r-init : goal.loop-r-init
loop-r-init t c =
    let g = c.requires in
    let s = c.args.set.now in (
      rw c.into_iter-r-iterator.ensures.into_iter_gives
          (turn_start g.0 g.1 c.if-at-atom_count.false g.2 g.3 _ _ s.fits s.ascending c.rows_left-r-items.result c.rows_left-r-items.ensures),
      same_start,
    )

pub offset_bounds-rows-r : goal.offset_bounds-rows-r
offset_bounds-rows-r t c = omega (arith, (turn_bounds c.loop-r.invariant.0 c.in-Some.ensures.steps).1, (turn_bounds c.loop-r.invariant.0 c.in-Some.ensures.steps).0.counted)

pub bounds-rows-r : goal.bounds-rows-r
bounds-rows-r t c = turn_row c.loop-r.invariant.0 c.in-Some.ensures.steps

pub bind_row-requires : goal.bind_row-requires
bind_row-requires t c = turn_given c.loop-r.invariant.0 c.in-Some.ensures.steps

pub loop-r-preserved : goal.loop-r-preserved
loop-r-preserved t c =
    let o = c.loop-r.invariant.0 in
    let h = c.in-Some.ensures.steps in
    let w = turn_bound o h c.bind_row.result c.bind_row.new.env c.bind_row.ensures c.if-not-bind_row.false in
    (turn_more o h w c.in_ok-add_heads.ensures.0 c.in_ok-add_heads.ensures.1.long, same_then c.loop-r.invariant.1 c.in_ok-add_heads.ensures.1)

pub loop-r-preserved-then-not-bind_row : goal.loop-r-preserved-then-not-bind_row
loop-r-preserved-then-not-bind_row t c =
    (turn_skip c.loop-r.invariant.0 c.in-Some.ensures.steps c.bind_row.result c.bind_row.new.env c.bind_row.ensures c.if-not-bind_row.true, c.loop-r.invariant.1)

pub returns-in_err-add_heads : goal.returns-in_err-add_heads
returns-in_err-add_heads t c =
    let o = c.loop-r.invariant.0 in
    let h = c.in-Some.ensures.steps in
    let w = turn_bound o h c.bind_row.result c.bind_row.new.env c.bind_row.ensures c.if-not-bind_row.false in
    rw (err_from_is_err_and c.from_residual.result c.from_residual.ensures.1).1 (turn_over o h w c.in_err-add_heads.ensures)

pub returns : goal.returns
returns t c = (turn_done c.loop-r.invariant.0 c.in-None.ensures.steps.1.0, c.loop-r.invariant.1)
