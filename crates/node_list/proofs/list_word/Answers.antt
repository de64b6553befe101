-- `node_list::list_word` meets its contract: what is left comes after what is written. Assumes nothing.
use Rattle.std.proofs.Common.{arith}
use Rattle.meaning.proofs.Lists.Lowest.{ones_cleared}
use Rattle.meaning.specs.Limits.{type_sets}
use Rattle.node_list.proofs.SetList.{word_again, word_done, word_room, word_start}
use Rattle.node_list.proofs.list_word.Goals as goal

pub loop-left-init : goal.loop-left-init
loop-left-init c = word_start _ _ _ _

pub bounds-sets-end : goal.bounds-sets-end
bounds-sets-end c = let pre = c.requires in
    omega (arith, word_room c.loop-left.invariant (omega arith) (omega (arith, c.loop-left-test.true)) type_sets pre.1, c.loop-left.invariant.long, pre.2)

pub loop-left-smaller : goal.loop-left-smaller
loop-left-smaller c = omega (arith, ones_cleared c.loop-left.left (omega (arith, c.loop-left-test.true)))

pub loop-left-preserved : goal.loop-left-preserved
loop-left-preserved c = let pre = c.requires in
    let g = c.loop-left.invariant in
    word_again g (omega arith) (omega (arith, c.loop-left-test.true))
    (omega (arith, word_room g (omega arith) (omega (arith, c.loop-left-test.true)) type_sets pre.1, g.long, pre.2))

pub returns : goal.returns
returns c = word_done c.loop-left.invariant (omega (arith, c.loop-left-test.false))
