-- `reached::pairs::walk` meets its contract. Assumes nothing.
use native.Mathlib.Omega.{arith}
use Rattle.forward.proofs.Forward.{marked_state}
use Rattle.forward.proofs.SeenNumbers.{mark_room}
use Rattle.reached.proofs.Walking.{walk_again, walk_ended_lent, walk_start}
use Rattle.worklist.proofs.Growth.{nothing_marked, same_start, same_then, turn_left}
use Rattle.reached.proofs.pairs.walk.Goals as goal

pub mark-requires : goal.mark-requires
mark-requires c = let pre = c.requires in
    let a = pre.0.fits.query.few in
    let b = pre.0.few in
    let d = pre.1 in
    (_, mark_room _ _ (omega arith) (omega arith), nothing_marked pre.2.0 pre.2.1)

pub loop-w-init : goal.loop-w-init
loop-w-init c = let a = c.requires.0.fits.query.few in
    let b = c.requires.0.few in
    let d = c.requires.1 in (
      walk_start c.requires.0 c.requires.1 c.requires.2
          (marked_state _ _ (c.mark.ensures _ (mark_room _ _ (omega arith) (omega arith)) (nothing_marked c.requires.2.0 c.requires.2.1))),
      same_start,
    )

pub loop-w-smaller : goal.loop-w-smaller
loop-w-smaller c = let g = c.loop-w.invariant.0 in
    let (some, top, l, t) = c.in-Some.ensures _ g.marks.stacked in
    turn_left g.marks t c.visit_onward.ensures

pub loop-w-preserved : goal.loop-w-preserved
loop-w-preserved c = let g = c.loop-w.invariant.0 in
    let (some, top, l, t) = c.in-Some.ensures _ g.marks.stacked in
    (walk_again c.requires.0 g t c.visit_onward.ensures, same_then c.loop-w.invariant.1 (same_then t.lent c.visit_onward.ensures.lent))

pub returns : goal.returns
returns c = let g = c.loop-w.invariant.0 in
    let a = c.requires.0.fits.query.few in
    let b = c.requires.0.few in
    let d = c.requires.1 in
    let m = c.mark.ensures _ (mark_room _ _ (omega arith) (omega arith)) (nothing_marked c.requires.2.0 c.requires.2.1) in
    let (none, same) = c.in_default.ensures _ g.marks.stacked in
    walk_ended_lent c.requires.0 d g none (same_then m.lent c.loop-w.invariant.1) same
