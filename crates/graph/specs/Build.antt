-- What a build answers and leaves in the two lists. Assumes nothing.
use Rattle.std.specs.Prelude.{drop, length, Err, List, Ok, Result, ◌++◌, ◌≡◌, ℕ}
use Rattle.calls.specs.Call.{Contents, ◌becomes◌}
use Rattle.clash.specs.Clash.{ClashAt}
use Rattle.graph.specs.Fronts.{GraphListed}
use Rattle.core_lists.specs.Held.{InputOf}
use Rattle.core_lists.specs.declared.Core.{Core}
use Rattle.node_list.specs.Records.{Arities}
use Rattle.graph.specs.declared.NoGraph.{NoGraph}
use Rattle.graph.specs.declared.NoGraph.TheVariants.{Clash, Mixed}
use Rattle.graph.specs.declared.Size.{Size}
use Rattle.meaning.specs.NoGraph.{MixedKinds, TwoObjects}
use Rattle.meaning.specs.Pack.{Pack}

-- The pack has a graph; its records stand first in the two lists, and what follows is as it was.
pub record GraphWritten (P : Pack) (n t : ℕ) (nodes triples : Contents) : Type 0 where
  pub node_front : List ℕ
  pub triple_front : List ℕ
  pub graph : GraphListed P n t node_front triple_front
  pub nodes_written : nodes.after ≡ node_front ++ drop (length node_front) nodes.before
  pub triples_written : triples.after ≡ triple_front ++ drop (length triple_front) triples.before
  pub not_10 : ¬ TwoObjects P
  pub not_11 : ¬ MixedKinds P

module _ (table : List (List ℕ)) (arities : List ℕ) (core : Core) (out out' edges edges' : List ℕ) where
  -- the counts of the graph; the place of a clash, or refusal 11, and the lists as they were
  abbrev pub BuildShown : Result Size NoGraph → Type 0
  BuildShown (Ok size) =
      (P : Pack) → InputOf P table core → Arities P arities → GraphWritten P size.nodes size.triples (out becomes out') (edges becomes edges')
  BuildShown (Err (Clash i)) =
      (out' ≡ out) × (edges' ≡ edges) × ((P : Pack) → InputOf P table core → ClashAt P core.nodes.now core.triples.now i)
  BuildShown (Err Mixed) =
      (out' ≡ out) × (edges' ≡ edges) × ((P : Pack) → InputOf P table core → (¬ TwoObjects P) × MixedKinds P)
