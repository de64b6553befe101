-- `arguments::find_value` meets its contract: in its loop, the values passed are others. Assumes nothing.
use native.Mathlib.Omega.{arith}
use Rattle.iris.proofs.Loaded.{value_inside, value_place}
use Rattle.iris.proofs.Segments.{finding_start, found_again, found_here, found_none}
use Rattle.iris.proofs.arguments.find_value.Goals as goal

pub loop-v-init : goal.loop-v-init
loop-v-init c = finding_start _ _

pub overflow_mul-at : goal.overflow_mul-at
overflow_mul-at c = omega (arith, value_place c.requires c.loop-v-test.true)

pub overflow_add-at : goal.overflow_add-at
overflow_add-at c = omega (arith, value_place c.requires c.loop-v-test.true)

pub offset_bounds-setting-at : goal.offset_bounds-setting-at
offset_bounds-setting-at c = omega (arith, value_place c.requires c.loop-v-test.true)

pub bounds-setting-at : goal.bounds-setting-at
bounds-setting-at c = omega (arith, value_place c.requires c.loop-v-test.true)

pub overflow_add-end : goal.overflow_add-end
overflow_add-end c = omega (arith, value_place c.requires c.loop-v-test.true)

pub offset_bounds-setting-at-in-loop-v : goal.offset_bounds-setting-at-in-loop-v
offset_bounds-setting-at-in-loop-v c = omega (arith, value_place c.requires c.loop-v-test.true)

pub bounds-setting-at-in-loop-v : goal.bounds-setting-at-in-loop-v
bounds-setting-at-in-loop-v c = omega (arith, value_place c.requires c.loop-v-test.true)

pub overflow_add-end-in-loop-v : goal.overflow_add-end-in-loop-v
overflow_add-end-in-loop-v c = omega (arith, value_inside c.requires c.loop-v-test.true)

pub slice_bounds-is_segment-end : goal.slice_bounds-is_segment-end
slice_bounds-is_segment-end c = omega (arith, value_inside c.requires c.loop-v-test.true)

pub returns-then-is_segment : goal.returns-then-is_segment
returns-then-is_segment c =
    found_here c.requires c.loop-v.invariant c.loop-v-test.true c.is_segment.ensures c.if-is_segment.true

pub overflow_step-v : goal.overflow_step-v
overflow_step-v c = omega (arith, value_place c.requires c.loop-v-test.true)

pub loop-v-preserved : goal.loop-v-preserved
loop-v-preserved c =
    found_again c.requires c.loop-v.invariant c.loop-v-test.true c.is_segment.ensures c.if-is_segment.false

pub returns : goal.returns
returns c = found_none c.requires c.loop-v.invariant c.loop-v-test.false
