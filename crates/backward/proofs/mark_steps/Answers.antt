-- `backward::mark_steps` meets its contract. Assumes nothing.
use lib.Count.{trailing_le}
use native.Mathlib.Omega.{arith}
use Rattle.meaning.proofs.Lists.Lowest.{ones_cleared}
use Rattle.worklist.proofs.Growth.{next_in, sweep_again, sweep_done, sweep_start}
use Rattle.backward.proofs.mark_steps.Goals as goal

pub loop-left-init : goal.loop-left-init
loop-left-init c = sweep_start c.requires.1.1

pub overflow_cast-m : goal.overflow_cast-m
overflow_cast-m c = omega (arith, trailing_le 64 c.loop-left.left)

pub overflow_add-m : goal.overflow_add-m
overflow_add-m c = omega (arith, trailing_le 64 c.loop-left.left)

pub offset_bounds-starts-m : goal.offset_bounds-starts-m
offset_bounds-starts-m c = omega (arith, trailing_le 64 c.loop-left.left)

pub bounds-starts-m : goal.bounds-starts-m
bounds-starts-m c = let l = c.requires.0.long _
    (next_in c.loop-left.invariant (omega arith) c.ranges.bits.fits) in
    omega arith

pub overflow_add-m-in-loop-left : goal.overflow_add-m-in-loop-left
overflow_add-m-in-loop-left c = omega (arith, trailing_le 64 c.loop-left.left)

pub offset_bounds-starts-m-in-loop-left : goal.offset_bounds-starts-m-in-loop-left
offset_bounds-starts-m-in-loop-left c = omega (arith, trailing_le 64 c.loop-left.left)

pub bounds-starts-m-in-loop-left : goal.bounds-starts-m-in-loop-left
bounds-starts-m-in-loop-left c = c.requires.0.long _ (next_in c.loop-left.invariant (omega arith) c.ranges.bits.fits)

pub mark_subjects-requires : goal.mark_subjects-requires
mark_subjects-requires c = (c.requires.0.range _ (next_in c.loop-left.invariant (omega arith) c.ranges.bits.fits), (c.requires.1.0.0, c.loop-left.invariant.adds.after))

pub loop-left-smaller : goal.loop-left-smaller
loop-left-smaller c = let loop = c.loop-left in
    omega (arith, ones_cleared loop.left (omega arith))

pub loop-left-preserved : goal.loop-left-preserved
loop-left-preserved c = sweep_again c.loop-left.invariant (omega arith) c.ranges.bits.fits c.mark_subjects.ensures

pub returns : goal.returns
returns c = sweep_done c.loop-left.invariant (omega arith)
