-- `reached::pairs::list_pairs` meets its contract. Assumes nothing.
use Rattle.reached.proofs.Listing.{listed_start}
use Rattle.worklist.proofs.Growth.{same_start}
use Rattle.reached.proofs.pairs.list_pairs.Goals as goal

pub loop-start-init : goal.loop-start-init
loop-start-init c = let pre = c.requires in (pre.1, listed_start pre.0.fits pre.0.nodes, same_start)
