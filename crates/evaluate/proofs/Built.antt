-- The built graph's nodes stand in the node list, each once, the named ones first. Assumes nothing.
use Rattle.std.proofs.Common.{List}
use Rattle.meaning.proofs.Lists.Ordered.{by_key}
use Rattle.meaning.proofs.Lists.OrderedPlaces.{one_place}
use Rattle.meaning.proofs.Model.Built.{edge_from, edge_to}
use Rattle.meaning.specs.Built.{BuiltNode}
use Rattle.meaning.specs.Certain.{built}
use Rattle.meaning.specs.Graph.{Spelling}
use Rattle.meaning.specs.Listing.{NodesInOrder, node_key}
use Rattle.meaning.specs.Pack.{Pack}
use Rattle.walk.specs.Walk.{EdgesJoinNodes}
use Rattle.evaluate.specs.Listed.{ListsNodes}

module _ (σ : Spelling) (P : Pack) where
  pub built_listed : (nodes : List BuiltNode) → NodesInOrder P nodes → ListsNodes (built σ P) nodes
  built_listed nodes o = record { listed = o.members; once = one_place (by_key node_key) nodes o.ascending }

  pub built_whole : EdgesJoinNodes (built σ P)
  built_whole n m p e = (edge_from P e, edge_to P e)
