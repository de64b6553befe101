-- `resolve::number_wanted` meets its contract. Assumes nothing.
use Rattle.resolve.proofs.PartKinds.{wants_iri, wants_literal}
use Rattle.resolve.proofs.number_wanted.Goals as goal

pub returns-in-3 : goal.returns-in-3
returns-in-3 c = wants_iri _ _ _ _ _ _ c.in-3.is c.node_of_iri.ensures

pub returns-in-4 : goal.returns-in-4
returns-in-4 c = wants_literal _ _ _ _ _ _ c.in-4.is c.node_of_literal.ensures
