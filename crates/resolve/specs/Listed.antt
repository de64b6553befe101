-- The node list of a graph as a lent slice holds it: seven numbers a node, in node order. Assumes nothing.
use Rattle.std.specs.Prelude.{length, take, ◌≡◌, ℕ, ◌*◌, ◌≤◌}
use mathlib.Core.List.{List, Forall₂, flatten}
use Rattle.meaning.specs.Built.{BuiltNode}
use Rattle.meaning.specs.Limits.{node_list_length, node_width}
use Rattle.meaning.specs.Listing.{NodeRecord, NodesInOrder}
use Rattle.meaning.specs.Pack.{Pack}

-- The first count records are those of the pack's built nodes, in node order.
pub record BuiltNodesListed (P : Pack) (in_order : List BuiltNode) (nodes : List ℕ) (count : ℕ) : Type 0 where
  pub ordered : NodesInOrder P in_order
  pub records : List (List ℕ)
  pub recorded : Forall₂ (NodeRecord P) in_order records
  pub are : take (count * node_width) nodes ≡ flatten records
  pub counted : count ≡ length in_order

-- The list has room for as many nodes as there may be, and there are no more.
pub record Roomy (nodes : List ℕ) (count : ℕ) : Type 0 where
  pub room : node_list_length ≤ length nodes
  pub few : count * node_width ≤ node_list_length
