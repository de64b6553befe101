-- The node list that a build leaves, as lent slices hold it. Assumes nothing.
use Rattle.std.specs.Prelude.{◌≡◌, ℕ, ◌*◌, ◌<◌, ◌≤◌, List, ◌++◌, length, drop}
use mathlib.Core.List.{Forall₂, flatten}
use Rattle.core_lists.specs.Input.{Input}
use Rattle.node_list.specs.Records.{Arities, node_set}
use Rattle.meaning.specs.Built.{BuiltNode, IsBuilt, invented}
use Rattle.meaning.specs.Limits.{max_nodes, node_width}
use Rattle.meaning.specs.Listing.{NodeRecord, NodesInOrder}
use Rattle.meaning.specs.NoGraph.{MixedKinds}
use Rattle.meaning.specs.Ordered.{ListOf}
use Rattle.meaning.specs.Pack.{Pack}

-- The sets are those of the invented nodes, ascending, by their masks.
abbrev pub InventedNodes : Pack → List ℕ → Type 0
InventedNodes P = ListOf ◌<◌ (λ k. IsBuilt P (invented (node_set k)))

-- The first count records of the slice are those of the built nodes in node order, and what follows is as it was.
pub record NodesListed (P : Pack) (out out' : List ℕ) (count : ℕ) : Type 0 where
  pub in_order : List BuiltNode
  pub ordered : NodesInOrder P in_order
  pub records : List (List ℕ)
  pub recorded : Forall₂ (NodeRecord P) in_order records
  pub counted : count ≡ length records
  pub few : count ≤ max_nodes
  pub written : out' ≡ flatten records ++ drop (count * node_width) out

abbrev pub NodesShown : List ℕ → List ℕ → List ℕ → List ℕ → List ℕ → List ℕ → ℕ → Type 0
NodesShown arities nodes masks sets out out' count =
    (P : Pack) (table : List (List ℕ)) (triples : List ℕ) → Input P table nodes triples masks → Arities P arities → InventedNodes P sets → ¬ MixedKinds P
    → NodesListed P out out' count
