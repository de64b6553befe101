-- `matching::keys::head_key` meets its contract: the key of the first i variables. Assumes nothing.
use native.Mathlib.Omega.{arith}
use Rattle.matching.proofs.HeadKey.{making_start, making_value, making_room, making_again, making_open, making_done}
use Rattle.meaning.proofs.Lists.Places.{∈_at}
use Rattle.matching.proofs.keys.head_key.Goals as goal

pub loop-v-init : goal.loop-v-init
loop-v-init c = making_start _ _

pub bounds-env-v : goal.bounds-env-v
bounds-env-v c = let l = c.loop-v in
    omega (arith, c.requires.0.below _ (∈_at c.args.vars.now l.v-index c.loop-v-test.true), c.requires.1.long)

pub returns-then-x : goal.returns-then-x
returns-then-x c = making_open c.loop-v.invariant c.loop-v-test.true c.requires.1 c.if-x.true

pub overflow_mul-key : goal.overflow_mul-key
overflow_mul-key c = let l = c.loop-v in
    omega (arith, making_room l.invariant c.loop-v-test.true c.requires.1 c.requires.0)

pub overflow_add-key : goal.overflow_add-key
overflow_add-key c = let loop-test = c.loop-v-test in
    let l = c.loop-v in
    omega (arith, making_room l.invariant loop-test.true c.requires.1 c.requires.0, making_value l.invariant loop-test.true c.requires.1 c.if-x.false)

pub loop-v-preserved : goal.loop-v-preserved
loop-v-preserved c = making_again c.loop-v.invariant c.loop-v-test.true c.requires.1 c.if-x.false

pub returns : goal.returns
returns c = making_done c.loop-v.invariant c.loop-v-test.false
