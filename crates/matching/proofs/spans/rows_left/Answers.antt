-- `matching::spans::rows_left` meets its contract: the bounds of the columns from c on. Assumes nothing.
use native.Mathlib.Omega.{arith}
use Rattle.sets.proofs.Rank.{rank_le}
use Rattle.matching.proofs.Bounds.{bounds_start, bounds_room, bounds_variable, bounds_open, bounds_bound, span_before, span_within, span_end}
use Rattle.matching.proofs.spans.rows_left.Goals as goal

pub loop-c-init : goal.loop-c-init
loop-c-init c = bounds_start _ _

pub bounds-env-own : goal.bounds-env-own
bounds-env-own c = let pre = c.requires in
    omega (arith, pre.1.long, bounds_variable c.loop-c.invariant c.loop-c-test.true pre.0)

pub overflow_mul-low : goal.overflow_mul-low
overflow_mul-low c = let pre = c.requires in
    omega (arith, (bounds_room c.loop-c.invariant c.loop-c-test.true pre.0).0)

pub overflow_mul-high : goal.overflow_mul-high
overflow_mul-high c = let pre = c.requires in
    omega (arith, (bounds_room c.loop-c.invariant c.loop-c-test.true pre.0).1)

pub overflow_add-high : goal.overflow_add-high
overflow_add-high c = let pre = c.requires in
    omega (arith, (bounds_room c.loop-c.invariant c.loop-c-test.true pre.0).1)

pub loop-c-preserved-then-x : goal.loop-c-preserved-then-x
loop-c-preserved-then-x c = bounds_open c.loop-c.invariant c.loop-c-test.true

pub overflow_mul-low-else-x : goal.overflow_mul-low-else-x
overflow_mul-low-else-x c = let pre = c.requires in
    omega (arith, (bounds_room c.loop-c.invariant c.loop-c-test.true pre.0).0)

pub overflow_add-low : goal.overflow_add-low
overflow_add-low c = let pre = c.requires in
    omega (arith, pre.1.small _ c.if-x.false, (bounds_room c.loop-c.invariant c.loop-c-test.true pre.0).0)

pub overflow_mul-high-else-x : goal.overflow_mul-high-else-x
overflow_mul-high-else-x c = let pre = c.requires in
    omega (arith, (bounds_room c.loop-c.invariant c.loop-c-test.true pre.0).1)

pub overflow_add-high-else-x : goal.overflow_add-high-else-x
overflow_add-high-else-x c = let pre = c.requires in
    omega (arith, pre.1.small _ c.if-x.false, (bounds_room c.loop-c.invariant c.loop-c-test.true pre.0).1)

pub loop-c-preserved : goal.loop-c-preserved
loop-c-preserved c = let pre = c.requires in
    bounds_bound c.loop-c.invariant c.loop-c-test.true pre.1 c.if-x.false

pub returns-then-keys-from : goal.returns-then-keys-from
returns-then-keys-from c = span_before c.loop-c.invariant c.loop-c-test.false c.args.keys.now c.requires.2 _ c.rank-from.ensures _ (omega arith)
    c.if-from-keys.true c.if-keys-from.true

pub overflow_add-from : goal.overflow_add-from
overflow_add-from c = omega (arith, c.rank-from.ensures, rank_le c.loop-c.low c.args.keys.now)

pub returns-then-keys-from-2 : goal.returns-then-keys-from-2
returns-then-keys-from-2 c = span_before c.loop-c.invariant c.loop-c-test.false c.args.keys.now c.requires.2 _ c.rank-from.ensures _ (omega arith)
    c.if-from-keys-2.true c.if-keys-from-2.true

pub returns-then-last-keys : goal.returns-then-last-keys
returns-then-last-keys c = span_within c.loop-c.invariant c.loop-c-test.false c.args.keys.now c.requires.2 _ c.rank-from.ensures _ c.rank-last.ensures
    c.if-last-keys.true

pub returns : goal.returns
returns c = span_end c.loop-c.invariant c.loop-c-test.false c.args.keys.now c.requires.2 _ c.rank-from.ensures _ c.rank-last.ensures
    c.if-last-keys.false
