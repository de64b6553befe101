-- `labels::node_of_iri` meets its contract. Assumes nothing.
use Rattle.resolve.proofs.LabelledNodes.{iri_unknown, iri_found}
use Rattle.resolve.proofs.labels.node_of_iri.Goals as goal

pub returns-in_err-term : goal.returns-in_err-term
returns-in_err-term c = rw c.from_residual.ensures (iri_unknown _ _ c.requires.1 c.in_err-term.ensures)

pub returns : goal.returns
returns c = iri_found _ _ c.requires.1 c.in_ok-term.ensures c.find_node.ensures
