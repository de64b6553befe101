-- `iri::read_iri` meets its contract: in its loop, the constructors passed do not begin the text. Assumes nothing.
use lib.ListN.{length-drop}
use lib.Seq.{take_all}
use Prim.Native.Nat.{ℕ}
use native.Mathlib.Omega.{arith}
use Rattle.iris.proofs.IriRead.{next_constructor, no_constructor, prefix_fits, this_constructor, this_refuses, trying_start}
use Rattle.iris.proofs.Loaded.{arity_small, constructor_place, prefix_inside}
use Rattle.names.proofs.Counted.{constructors_few}
use Rattle.iris.proofs.iri.read_iri.Goals as goal

pub loop-c-init : goal.loop-c-init
loop-c-init c = trying_start _ _

pub overflow_mul-at : goal.overflow_mul-at
overflow_mul-at c = omega (arith, constructor_place c.requires c.loop-c-test.true)

pub overflow_add-at : goal.overflow_add-at
overflow_add-at c = omega (arith, constructor_place c.requires c.loop-c-test.true)

pub overflow_add-start : goal.overflow_add-start
overflow_add-start c = omega (arith, constructor_place c.requires c.loop-c-test.true)

pub offset_bounds-setting-at : goal.offset_bounds-setting-at
offset_bounds-setting-at c = omega (arith, constructor_place c.requires c.loop-c-test.true)

pub bounds-setting-at : goal.bounds-setting-at
bounds-setting-at c = omega (arith, constructor_place c.requires c.loop-c-test.true)

pub overflow_add-len : goal.overflow_add-len
overflow_add-len c = omega (arith, constructor_place c.requires c.loop-c-test.true)

pub offset_bounds-setting-at-in-loop-c : goal.offset_bounds-setting-at-in-loop-c
offset_bounds-setting-at-in-loop-c c = omega (arith, constructor_place c.requires c.loop-c-test.true)

pub bounds-setting-at-in-loop-c : goal.bounds-setting-at-in-loop-c
bounds-setting-at-in-loop-c c = omega (arith, constructor_place c.requires c.loop-c-test.true)

pub overflow_add-end : goal.overflow_add-end
overflow_add-end c = omega (arith, prefix_inside c.requires c.loop-c-test.true)

pub slice_bounds-begins_text-end : goal.slice_bounds-begins_text-end
slice_bounds-begins_text-end c = omega (arith, prefix_inside c.requires c.loop-c-test.true)

pub offset_bounds-setting-at-then-begins_text : goal.offset_bounds-setting-at-then-begins_text
offset_bounds-setting-at-then-begins_text c = omega (arith, constructor_place c.requires c.loop-c-test.true)

pub bounds-setting-at-then-begins_text : goal.bounds-setting-at-then-begins_text
bounds-setting-at-then-begins_text c = omega (arith, constructor_place c.requires c.loop-c-test.true)

pub slice_bounds-read_arguments-count : goal.slice_bounds-read_arguments-count
slice_bounds-read_arguments-count c = prefix_fits c.requires c.loop-c.invariant c.loop-c-test.true c.begins_text.ensures c.if-begins_text.true

pub slice_bounds-read_arguments-start : goal.slice_bounds-read_arguments-start
slice_bounds-read_arguments-start c = prefix_fits c.requires c.loop-c.invariant c.loop-c-test.true c.begins_text.ensures c.if-begins_text.true

pub read_arguments-requires : goal.read_arguments-requires
read_arguments-requires c = (c.requires, arity_small c.requires c.loop-c-test.true)

pub returns-in_err-values : goal.returns-in_err-values
returns-in_err-values c =
    rw c.from_residual.ensures (this_refuses c.requires c.loop-c.invariant c.loop-c-test.true c.begins_text.ensures c.if-begins_text.true (take_all _ _ (omega (arith, length-drop {A = ℕ})))
    c.read_arguments.ensures c.in_err-values.was)

pub overflow_cast-result : goal.overflow_cast-result
overflow_cast-result c = omega (arith, constructors_few c.requires.given, c.loop-c-test.true)

pub returns-then-begins_text : goal.returns-then-begins_text
returns-then-begins_text c =
    this_constructor c.requires c.loop-c.invariant c.loop-c-test.true c.begins_text.ensures c.if-begins_text.true (take_all _ _ (omega (arith, length-drop {A = ℕ}))) c.read_arguments.ensures
    c.in_ok-values.was

pub overflow_step-c : goal.overflow_step-c
overflow_step-c c = omega (arith, constructor_place c.requires c.loop-c-test.true)

pub loop-c-preserved : goal.loop-c-preserved
loop-c-preserved c =
    next_constructor c.requires c.loop-c.invariant c.loop-c-test.true c.begins_text.ensures c.if-begins_text.false

pub returns : goal.returns
returns c = no_constructor c.requires c.loop-c.invariant c.loop-c-test.false
