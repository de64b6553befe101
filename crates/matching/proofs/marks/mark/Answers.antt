-- `matching::marks::mark` meets its contract. Assumes nothing.
use native.Mathlib.Omega.{arith}
use Rattle.matching.proofs.Marked.{marking_start, marking_again, marking_done}
use Rattle.meaning.proofs.Lists.Places.{∈_at}
use Rattle.matching.proofs.marks.mark.Goals as goal

pub loop-v-init : goal.loop-v-init
loop-v-init c = marking_start _ _

pub bounds-marks-v : goal.bounds-marks-v
bounds-marks-v c = let pre = c.requires in
    let args = c.args in
    let loop = c.loop-v in
    omega (arith, (pre _ (∈_at args.own.now loop.v-index c.loop-v-test.true)), loop.invariant.long)

pub bounds-marks-v-in-loop-v : goal.bounds-marks-v-in-loop-v
bounds-marks-v-in-loop-v c = let pre = c.requires in
    let args = c.args in
    let loop = c.loop-v in
    omega (arith, (pre _ (∈_at args.own.now loop.v-index c.loop-v-test.true)), loop.invariant.long)

pub loop-v-preserved : goal.loop-v-preserved
loop-v-preserved c = marking_again c.loop-v.invariant c.loop-v-test.true _ c.noted.ensures

pub returns : goal.returns
returns c = marking_done c.loop-v.invariant c.loop-v-test.false
