-- `node_list::set_node` meets its contract. Assumes nothing.
use Rattle.node_list.proofs.SetList.{set_literal, set_other}
use Rattle.node_list.proofs.set_node.Goals as goal

pub returns-then-types-eq0 : goal.returns-then-types-eq0
returns-then-types-eq0 c = set_literal c.args.types c.if-types-eq0.true

pub returns-else-types-eq0 : goal.returns-else-types-eq0
returns-else-types-eq0 c = set_other c.args.types c.if-types-eq0.false
