-- What a run that has built the graph can show of it. Assumes nothing.
use mathlib.Core.List.{List}
use mathlib.Core.Logic.{◌↔◌}
use Prim.Native.Nat.{ℕ}
use Rattle.meaning.specs.Built.{BuiltEdge, BuiltNode, IsBuilt}
use Rattle.meaning.specs.Core.{CoreNode, CoreType, Node}
use Rattle.meaning.specs.Member.{◌∈◌}
use Rattle.meaning.specs.Pack.{Pack, Target}
use Rattle.meaning.specs.TypeSet.{TypeSet, ◌∈ₜ◌}

pub record BuiltTriple : Type 0 where
  pub subject : BuiltNode
  pub predicate : ℕ
  pub object : BuiltNode

-- Its two lists hold exactly the built nodes and edges, and it has the type set of each core node.
pub record Enumeration (P : Pack) : Type 0 where
  pub nodes : List BuiltNode
  pub edges : List BuiltTriple
  pub types : Node → TypeSet
  pub node_listed : {b : BuiltNode} → IsBuilt P b → b ∈ nodes
  pub listed_node : {b : BuiltNode} → b ∈ nodes → IsBuilt P b
  pub edge_listed : {b c : BuiltNode} {p : ℕ} → BuiltEdge P b p c → record { subject = b; predicate = p; object = c } ∈ edges
  pub listed_edge : {e : BuiltTriple} → e ∈ edges → BuiltEdge P e.subject e.predicate e.object
  pub types_listed : {n : Node} → CoreNode P n → (S : Target) → (S ∈ₜ types n) ↔ CoreType P n S
