-- What the graph is built from: the core in lent slices and the shape table. Assumes nothing.
use Rattle.std.specs.Prelude.{ℕ, ◌+◌, ◌<◌, ◌≤◌, List, length}
use Rattle.core_graph.specs.Bounds.{Bounded}
use Rattle.core_graph.specs.CoreHeld.{CoreHeld}
use Rattle.spread.specs.Keys.{object_of, predicate_of, subject_of}
use Rattle.meaning.specs.Limits.{first_literal, max_core_nodes, max_core_triples, max_iris, max_predicates, max_values}
use Rattle.meaning.specs.Member.{◌∈◌}
use Rattle.meaning.specs.Ordered.{InOrder}
use Rattle.meaning.specs.Pack.{Pack}
use Rattle.meaning.specs.Tables.{ShapeTable}
use Rattle.sets.specs.Ordered.{rank_of}

-- The ends of the triples are places of nodes, and each node has its type set; refusal 9's bounds hold.
pub record CoreFits (nodes triples masks : List ℕ) : Type 0 where
  pub nodes_ascend : InOrder ◌<◌ nodes
  pub triples_ascend : InOrder ◌<◌ triples
  pub few : length nodes ≤ max_core_nodes
  pub iris : rank_of first_literal nodes ≤ max_iris
  pub short : length triples ≤ max_core_triples
  pub long : length nodes ≤ length masks
  pub subject : (k : ℕ) → k ∈ triples → subject_of k < length nodes
  pub predicate : (k : ℕ) → k ∈ triples → predicate_of k < max_predicates
  pub object : (k : ℕ) → k ∈ triples → object_of k < length nodes

-- The core of a pack that none of 4, 7 and 9 refuses, and its shapes.
pub record Input (P : Pack) (table : List (List ℕ)) (nodes triples masks : List ℕ) : Type 0 where
  pub bounded : Bounded P
  pub shapes : ShapeTable P.setting table
  pub held : CoreHeld P nodes triples masks
  pub few : length nodes ≤ max_core_nodes
  pub iris : rank_of first_literal nodes ≤ max_iris
  pub short : length triples ≤ max_core_triples

-- The keys are those of IRIs, and of literals by their values.
pub record KeysSmall (nodes : List ℕ) : Type 0 where
  pub small : (k : ℕ) → k ∈ nodes → k < first_literal + max_values
