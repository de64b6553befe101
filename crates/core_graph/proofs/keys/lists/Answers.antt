-- `core_graph::keys::lists` meets its contract. Assumes nothing.
use Rattle.core_graph.proofs.Powers.{bytes_made}
use Rattle.core_graph.proofs.keys.lists.Goals as goal

pub returns : goal.returns
returns c = bytes_made _ c.requires
