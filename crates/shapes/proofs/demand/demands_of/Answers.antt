-- `shapes::demand::demands_of` meets its contract: what is joined so far, and the members that are left. Assumes nothing.
use lib.Count.{trailing_le}
use native.Mathlib.Omega.{arith}
use Rattle.meaning.proofs.Lists.Lowest.{ones_cleared}
use Rattle.shapes.proofs.Demands.{join_done, join_next, join_on, join_start}
use Rattle.shapes.proofs.demand.demands_of.Goals as goal

pub loop-left-init : goal.loop-left-init
loop-left-init c = join_start _ _

pub joined-more-requires : goal.joined-more-requires
joined-more-requires c = (join_next c.loop-left.invariant c.loop-left-test.true).0

pub loop-left-smaller : goal.loop-left-smaller
loop-left-smaller c = omega (arith, ones_cleared c.loop-left.left (omega arith))

pub loop-left-preserved : goal.loop-left-preserved
loop-left-preserved c = join_on c.loop-left.invariant c.loop-left-test.true c.joined-more.ensures

pub returns : goal.returns
returns c = join_done c.loop-left.invariant c.loop-left-test.false
