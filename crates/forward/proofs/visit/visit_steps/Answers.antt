-- `forward::visit::visit_steps` meets its contract. Assumes nothing.
use native.Mathlib.Omega.{arith}
use Rattle.meaning.proofs.Lists.Lowest.{ones_cleared}
use Rattle.worklist.proofs.Growth.{next_in, sweep_again, sweep_done}
use Rattle.forward.proofs.visit.visit_steps.Goals as goal

pub bounds-named-at : goal.bounds-named-at
bounds-named-at c = let a = (c.requires.0.1 _ (next_in c.loop-left.invariant (omega arith) c.ranges.bits.fits)).0 in
    omega arith

pub bounds-named-at-in-loop-left : goal.bounds-named-at-in-loop-left
bounds-named-at-in-loop-left c = let a = (c.requires.0.1 _ (next_in c.loop-left.invariant (omega arith) c.ranges.bits.fits)).0 in
    omega arith

pub visit_objects-requires : goal.visit_objects-requires
visit_objects-requires c = ((c.requires.0.1 _ (next_in c.loop-left.invariant (omega arith) c.ranges.bits.fits)).1, c.requires.1, c.loop-left.invariant.adds.after)

pub loop-left-smaller : goal.loop-left-smaller
loop-left-smaller c = let loop = c.loop-left in
    omega (arith, ones_cleared loop.left (omega arith))

pub loop-left-preserved : goal.loop-left-preserved
loop-left-preserved c = sweep_again c.loop-left.invariant (omega arith) c.ranges.bits.fits c.visit_objects.ensures

pub returns : goal.returns
returns c = sweep_done c.loop-left.invariant (omega arith)
