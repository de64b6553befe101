-- `sets::buffers::copy_front` meets its contract: the first i are copied, and the rest is as it was. Assumes nothing.
use borrow.Author.Rules.{rules}
use Rattle.sets.proofs.Copy.{copy_start, copy_again, copy_done}
use Rattle.sets.proofs.buffers.copy_front.Goals as goal

pub loop-i-init : goal.loop-i-init
loop-i-init c = search (copy_start, rules)

pub loop-i-preserved : goal.loop-i-preserved
loop-i-preserved c = copy_again c.loop-i.invariant (search rules) (search rules) (search rules)

pub returns : goal.returns
returns c = copy_done c.loop-i.invariant (search rules)
