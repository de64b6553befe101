-- `node_list::list_core` meets its contract: the nodes before place i are written. Assumes nothing.
use Rattle.std.proofs.Common.{arith}
use Rattle.node_list.proofs.CoreList.{core_end, core_next, numbers_long}
use Rattle.meaning.proofs.Lists.Places.{∈_at}
use Rattle.meaning.proofs.Lists.Recording.{records_again, records_done}
use Rattle.node_list.proofs.list_core.Goals as goal

pub core_node-requires : goal.core_node-requires
core_node-requires c = c.requires.0.small _ (∈_at c.args.nodes.now c.loop-i.i (omega arith))

pub loop-i-preserved : goal.loop-i-preserved
loop-i-preserved c = let l = c.loop-i in
    let a = c.args in
    rw (c.write_record.ensures, c.core_node.ensures)
    (records_again _ (rw (core_next a.arities a.nodes.now a.masks.now l.i (omega arith) (omega (arith, c.requires.2))) at l.invariant) (numbers_long _ _ _)
    (omega (arith, c.requires.3, c.requires.1)))

pub returns : goal.returns
returns c = let l = c.loop-i in
    let a = c.args in
    records_done (rw (core_end a.arities a.nodes.now a.masks.now l.i (omega arith)) at l.invariant) (omega arith)
    (omega (arith, c.requires.3, c.requires.1))
