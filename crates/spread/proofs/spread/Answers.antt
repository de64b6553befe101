-- `spread::spread` meets its contract: rounds until one adds nothing. Assumes nothing.
use native.Mathlib.Omega.{arith}
use Rattle.spread.proofs.Spreading.{all_made, rounds_few, spread_again, spread_done, spread_start}
use Rattle.meaning.specs.Limits.{max_core_triples}
use Rattle.spread.proofs.spread.Goals as goal

pub loop-passed-init : goal.loop-passed-init
loop-passed-init c = spread_start _ _ _ max_core_triples

pub overflow_add-rounds : goal.overflow_add-rounds
overflow_add-rounds c = let l = c.loop-passed in
    omega (arith, rounds_few l.invariant c.requires.3)

pub overflow_add-result : goal.overflow_add-result
overflow_add-result c = let l = c.loop-passed in
    omega (arith, rounds_few l.invariant c.requires.3)

pub returns : goal.returns
returns c = let made = c.loop-passed.invariant in
    let last = c.round in
    spread_done (all_made made last.auto.masks last.ensures.0 (rw c.loop-passed-test.false at last.ensures.1))

pub loop-passed-smaller : goal.loop-passed-smaller
loop-passed-smaller c = let r = c.round in rw c.loop-passed-test.true at r.ensures.1

pub loop-passed-preserved : goal.loop-passed-preserved
loop-passed-preserved c = let l = c.loop-passed in
    let r = c.round in
    let e = c.loop-passed-test.true in
    spread_again l.invariant r.auto.masks r.ensures.0 e (rw e at r.ensures.1)
