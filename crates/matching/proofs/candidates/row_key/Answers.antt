-- `matching::candidates::row_key` meets its contract. Assumes nothing.
use native.Mathlib.Omega.{arith}
use Rattle.matching.proofs.RowKey.{keying_start, keying_room, keying_variable, keying_cell, keying_open, keying_bound, keying_done}
use Rattle.matching.proofs.candidates.row_key.Goals as goal

pub loop-c-init : goal.loop-c-init
loop-c-init c = keying_start _ _ _ _ _

pub bounds-start-order : goal.bounds-start-order
bounds-start-order c = let pre = c.requires in
    omega (arith, keying_variable c.loop-c.invariant c.loop-c-test.true pre.0, pre.1.long)

pub overflow_mul-key : goal.overflow_mul-key
overflow_mul-key c = let pre = c.requires in
    let loop = c.loop-c in
    omega (arith, keying_room loop.invariant c.loop-c-test.true pre.0)

pub overflow_add-key-then-x : goal.overflow_add-key-then-x
overflow_add-key-then-x c = let pre = c.requires in
    let loop = c.loop-c in
    let loop-test = c.loop-c-test in
    omega (arith, keying_room loop.invariant loop-test.true pre.0, keying_cell loop.invariant loop-test.true pre.2)

pub loop-c-preserved-then-x : goal.loop-c-preserved-then-x
loop-c-preserved-then-x c = keying_open c.loop-c.invariant c.loop-c-test.true c.requires.2 c.if-x.true

pub overflow_mul-key-else-x : goal.overflow_mul-key-else-x
overflow_mul-key-else-x c = let pre = c.requires in
    let loop = c.loop-c in
    omega (arith, keying_room loop.invariant c.loop-c-test.true pre.0)

pub overflow_add-key-else-x : goal.overflow_add-key-else-x
overflow_add-key-else-x c = let pre = c.requires in
    let loop = c.loop-c in
    omega (arith, keying_room loop.invariant c.loop-c-test.true pre.0, pre.1.small _ c.if-x.false)

pub loop-c-preserved : goal.loop-c-preserved
loop-c-preserved c = keying_bound c.loop-c.invariant c.loop-c-test.true c.requires.1 c.if-x.false

pub returns : goal.returns
returns c = keying_done c.loop-c.invariant c.loop-c-test.false
