-- `labels::node_of_literal` meets its contract. Assumes nothing.
use native.Mathlib.Omega.{arith}
use Rattle.iris.proofs.ArgumentsRead.{found_small}
use Rattle.resolve.proofs.LabelledNodes.{literal_unknown, literal_found}
use Rattle.resolve.proofs.labels.node_of_literal.Goals as goal

pub returns-in_err-v : goal.returns-in_err-v
returns-in_err-v c = rw c.from_residual.ensures (literal_unknown _ _ c.requires.1 c.in_err-v.ensures)

pub overflow_cast-v : goal.overflow_cast-v
overflow_cast-v c = omega (arith, found_small c.requires.0 _ c.find_value.ensures c.in_ok-v.was)

pub returns : goal.returns
returns c = literal_found _ _ c.requires.1 c.in_ok-v.ensures c.find_node.ensures
