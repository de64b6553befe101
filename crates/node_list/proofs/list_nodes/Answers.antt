-- `node_list::list_nodes` meets its contract: the core's records, and then those of the sets. Assumes nothing.
use Rattle.node_list.proofs.NodesLaws.{nodes_listed}
use Rattle.node_list.proofs.list_nodes.Goals as goal

pub returns : goal.returns
returns c = let l = c.list_sets.ensures in (
  λ P table triples I ar f clean. nodes_listed I f clean c.args.arities ar c.requires.3 c.args.out.now c.requires.1 c.requires.5 c.list_core.ensures
      l.0,
  l.1,
)
