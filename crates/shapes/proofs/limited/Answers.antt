-- `shapes::limited` meets its contract: the members that pass are still to come. Assumes nothing.
use lib.Count.{trailing_le}
use native.Mathlib.Omega.{arith}
use Rattle.shapes.proofs.Passing.{fails, found, no_shape, none_passes, pass_start}
use Rattle.shapes.proofs.Search.{search_next}
use Rattle.meaning.proofs.Lists.Lowest.{ones_cleared}
use Rattle.shapes.proofs.limited.Goals as goal

pub loop-left-init : goal.loop-left-init
loop-left-init c = pass_start _ _ _ _

pub bounds-shapes-t : goal.bounds-shapes-t
bounds-shapes-t c = (search_next c.loop-left.invariant.rest c.loop-left-test.true).0

pub returns-then-limits_edges : goal.returns-then-limits_edges
returns-then-limits_edges c = found c.loop-left.invariant c.loop-left-test.true c.limits_edges.ensures c.requires c.if-cell-ne0.true c.if-limits_edges.true

pub loop-left-smaller-else-limits_edges : goal.loop-left-smaller-else-limits_edges
loop-left-smaller-else-limits_edges c = omega (arith, ones_cleared c.loop-left.left (omega arith))

pub loop-left-preserved-else-limits_edges : goal.loop-left-preserved-else-limits_edges
loop-left-preserved-else-limits_edges c = fails c.loop-left.invariant c.loop-left-test.true c.limits_edges.ensures c.if-limits_edges.false

pub loop-left-smaller : goal.loop-left-smaller
loop-left-smaller c = omega (arith, ones_cleared c.loop-left.left (omega arith))

pub loop-left-preserved : goal.loop-left-preserved
loop-left-preserved c = no_shape c.loop-left.invariant c.loop-left-test.true c.if-cell-ne0.false

pub returns : goal.returns
returns c = none_passes c.loop-left.invariant c.requires c.loop-left-test.false
