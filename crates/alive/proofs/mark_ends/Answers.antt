-- `alive::mark_ends` meets its contract. Assumes nothing.
use native.Mathlib.Omega.{arith}
use Rattle.alive.proofs.Blocks.{end_again, end_done, end_start}
use Rattle.alive.proofs.mark_ends.Goals as goal

pub loop-block-init : goal.loop-block-init
loop-block-init c = end_start c.requires.1

pub loop-block-preserved : goal.loop-block-preserved
loop-block-preserved c = let l = c.loop-block-test.true in
    let e = c.div_ceil-block-end.ensures in
    let n = c.requires.0.0 in
    let p = c.requires.0.1 in
    end_again c.loop-block.invariant _ (omega arith) c.real_nodes.ensures (c.mark_word.ensures _ (omega arith) c.loop-block.invariant.adds.after)

pub returns : goal.returns
returns c = let l = c.loop-block-test.false in
    let e = c.div_ceil-block-end.ensures in
    end_done c.loop-block.invariant (omega arith)
