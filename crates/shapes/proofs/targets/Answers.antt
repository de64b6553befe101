-- `shapes::targets` meets its contract: the targets so far, and the members that are left. Assumes nothing.
use lib.Count.{trailing_le}
use native.Mathlib.Omega.{arith}
use Rattle.shapes.proofs.Joining.{code_fits, join_done, join_on, join_past, join_start}
use Rattle.shapes.proofs.Search.{search_next}
use Rattle.meaning.proofs.Lists.Lowest.{ones_cleared}
use Rattle.shapes.proofs.targets.Goals as goal

pub loop-left-init : goal.loop-left-init
loop-left-init c = join_start _ _ _

pub bounds-shapes-t : goal.bounds-shapes-t
bounds-shapes-t c = (search_next c.loop-left.invariant.rest c.loop-left-test.true).0

pub loop-left-smaller-then-cell-ne0 : goal.loop-left-smaller-then-cell-ne0
loop-left-smaller-then-cell-ne0 c = omega (arith, ones_cleared c.loop-left.left (omega arith))

pub loop-left-preserved-then-cell-ne0 : goal.loop-left-preserved-then-cell-ne0
loop-left-preserved-then-cell-ne0 c = join_on c.loop-left.invariant c.loop-left-test.true c.requires c.if-cell-ne0.true

pub loop-left-smaller : goal.loop-left-smaller
loop-left-smaller c = omega (arith, ones_cleared c.loop-left.left (omega arith))

pub loop-left-preserved : goal.loop-left-preserved
loop-left-preserved c = join_past c.loop-left.invariant c.loop-left-test.true c.if-cell-ne0.false

pub returns : goal.returns
returns c = join_done c.loop-left.invariant c.requires.0 c.loop-left-test.false
