-- `node_list::list_sets` meets its contract: the sets before place i are done. Assumes nothing.
use Rattle.std.proofs.Common.{get_or, arith, rules}
use Rattle.meaning.proofs.Lists.Places.{∈_at}
use Rattle.node_list.proofs.SetList.{few_sets, numbering_again, numbering_done, numbering_room}
use Rattle.node_list.proofs.list_sets.Goals as goal

pub write_record-requires : goal.write_record-requires
write_record-requires c = let p = c.requires in
    let l = c.loop-i in
    omega (arith, numbering_room l.invariant.1 p.0 p.2 p.3 (omega arith), l.invariant.1.records.long)

pub overflow_mul-node : goal.overflow_mul-node
overflow_mul-node c = omega (arith, few_sets c.requires.0, c.requires.2)

pub overflow_cast-places : goal.overflow_cast-places
overflow_cast-places c = omega (arith, few_sets c.requires.0, c.requires.2)

pub bounds-places-types : goal.bounds-places-types
bounds-places-types c = let l = c.loop-i in
    omega (arith, c.requires.0.below (get_or c.args.sets.now l.i 0) (∈_at c.args.sets.now l.i (omega arith)), c.requires.1, l.invariant.0)

pub loop-i-preserved : goal.loop-i-preserved
loop-i-preserved c = let p = c.requires in
    let l = c.loop-i in (
      search rules,
      rw (c.write_record.ensures, c.set_node.ensures)
          (numbering_again l.invariant.1 p.0 (omega arith) (omega (arith, p.1, l.invariant.0)) (numbering_room l.invariant.1 p.0 p.2 p.3 (omega arith))),
    )

pub returns : goal.returns
returns c = let p = c.requires in numbering_done c.loop-i.invariant.1 p.0 (omega arith) p.2 p.3
