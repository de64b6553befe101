-- `contents::start` meets its contract: the lengths before i are added. Assumes nothing.
use Rattle.pack.proofs.Sizes.{summed_start, summed_on}
use borrow.Author.Rules.{rules}
use Rattle.pack.proofs.contents.start.Goals as goal

pub loop-i-init : goal.loop-i-init
loop-i-init c = (search rules, summed_start _)

pub loop-i-preserved : goal.loop-i-preserved
loop-i-preserved c = (search rules, summed_on c.loop-i.invariant.1 c.word-at.ensures.0 c.word-at.ensures.1)
