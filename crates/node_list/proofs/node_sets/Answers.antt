-- `node_list::node_sets` meets its contract: the sets below the word w are listed. Assumes nothing.
use Rattle.std.proofs.Common.{arith, rules}
use Rattle.node_list.proofs.SetList.{listing_again, listing_start}
use Rattle.node_list.proofs.node_sets.Goals as goal

pub loop-w-init : goal.loop-w-init
loop-w-init c = (search rules, search rules, listing_start _ _)

pub loop-w-preserved : goal.loop-w-preserved
loop-w-preserved c = let loop = c.loop-w in
    let m = c.node_word in
    (search rules, search rules, listing_again m.result (omega arith) loop.invariant.2 m.ensures c.list_word-count.ensures)
