-- The theorem behind demand 3: what holds in every finite graph that obeys a pack is what holds in the built graph. It
-- supposes what refusal 7 checks (every number names a record) and a spelling that never gives two core nodes one name.
-- Assumes nothing.
use lib.Dec.{T}
use mathlib.Core.Bool.{false}
use mathlib.Core.Logic.{◌↔◌}
use mathlib.Core.Path.{◌≡◌}
use Rattle.meaning.proofs.Model.Built.{enumerate}
use Rattle.meaning.proofs.Model.Enumeration.{Enumeration}
use Rattle.meaning.proofs.Model.Refusals.{no_graph?}
use Rattle.meaning.proofs.Model.Resolved.{resolved}
use Rattle.meaning.proofs.Theory.CertainAnswers.{graph_iff, pair_iff, pairs_all, yes_iff}
use Rattle.meaning.proofs.Theory.Simulated.{no_graph}
use Rattle.meaning.specs.Built.{core}
use Rattle.meaning.specs.Certain.{CertainPair, CertainYes, Distinct, built}
use Rattle.meaning.specs.Core.{CoreNode, Node}
use Rattle.meaning.specs.Graph.{Graph, Name, Obeys, Spelling, is_named, name_of}
use Rattle.meaning.specs.NoGraph.{NoGraph}
use Rattle.meaning.specs.Pack.{Pack}
use Rattle.meaning.specs.Query.{Expr, Joins, Satisfied}
use Rattle.meaning.specs.WellFormed.{dangling}

module _ (P : Pack) (not-7 : dangling P ≡ false) (σ : Spelling) (distinct : Distinct σ P) where
  E : Enumeration P
  E = enumerate P (resolved P not-7)

  -- Some finite graph obeys the pack exactly if neither 10 nor 11 is true.
  pub has_graph : ((G : Graph) × Obeys σ P G) ↔ (¬ NoGraph P)
  has_graph = graph_iff σ P distinct E

  -- Where 10 or 11 is true, no finite graph obeys it.
  pub none_obeys : NoGraph P → (G : Graph) → ¬ Obeys σ P G
  none_obeys = no_graph σ P distinct

  module _ (has : ¬ NoGraph P) where
    -- A query is satisfied in every finite graph that obeys the pack exactly if it is satisfied in the built graph.
    pub certain_yes : (e : Expr) → CertainYes σ P e ↔ Satisfied (built σ P) e
    certain_yes = yes_iff σ P distinct E has

    -- It joins two core nodes, by name, in every such graph exactly if it joins them in the built graph.
    pub certain_pair : (e : Expr) (n m : Node) → CoreNode P n → CoreNode P m
        → CertainPair σ P e (name_of σ n) (name_of σ m) ↔ Joins (built σ P) e (core n) (core m)
    certain_pair = pair_iff σ P distinct E has

    -- No other two names are a certain pair.
    pub certain_pairs_all : (e : Expr) (n m : Name) → T (is_named n) → T (is_named m) → CertainPair σ P e n m
        → (k l : Node) × (CoreNode P k × CoreNode P l) × ((n ≡ name_of σ k) × (m ≡ name_of σ l)) × Joins (built σ P) e (core k) (core l)
    certain_pairs_all = pairs_all σ P distinct E has

  -- Whether there is such a graph is decided.
  pub graph_decided : Dec ((G : Graph) × Obeys σ P G)
  graph_decided = go (no_graph? P (resolved P not-7))
    where
      go : Dec (NoGraph P) → Dec ((G : Graph) × Obeys σ P G)
      go (yes c) = no (λ g. has_graph.0 g c)
      go (no n) = yes (has_graph.1 n)
