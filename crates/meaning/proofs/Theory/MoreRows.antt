-- Two packs that differ only in rows, the second holding all of the first's: what was certain remains so (card 10).
-- Assumes nothing.
use mathlib.Core.List.{List}
use Rattle.meaning.proofs.Model.Enumeration.{Enumeration}
use Rattle.meaning.proofs.Theory.CertainAnswers.{pair_iff, yes_iff}
use Rattle.meaning.proofs.Theory.Simulated.{built_closed, is_core, pair_certain, yes_certain}
use Rattle.meaning.proofs.Theory.Simulation.{ends, starts}
use Rattle.meaning.specs.Built.{core}
use Rattle.meaning.specs.Certain.{CertainPair, CertainYes, Distinct, built}
use Rattle.meaning.specs.Core.{CoreNode, Fact, Given, Matches, Node, as_object, as_subject, as_typed}
use Rattle.meaning.specs.Graph.{Graph, Obeys, Spelling}
use Rattle.meaning.specs.Member.{◌∈◌}
use Rattle.meaning.specs.NoGraph.{NoGraph}
use Rattle.meaning.specs.Pack.{Pack, Row}
use Rattle.meaning.specs.Query.{Expr, Joins, Satisfied}

-- the pack with other rows
abbrev pub with_rows : Pack → List Row → Pack
with_rows P rows = record { setting = P.setting; rows = rows }

module _ (σ : Spelling) (P : Pack) (rows : List Row) (more : (r : Row) → r ∈ P.rows → r ∈ rows) where
  abbrev P' : Pack
  P' = with_rows P rows

  given_more : {f : Fact} → Given P f → Given P' f
  unfolding Matches
  given_more g = record { rule = g.rule; listed = g.listed; values = g.values; matches = λ a h. more _ (g.matches a h); says = g.says }

  node_more : {n : Node} → CoreNode P n → CoreNode P' n
  node_more (as_typed g) = as_typed (given_more g)
  node_more (as_subject g) = as_subject (given_more g)
  node_more (as_object g) = as_object (given_more g)

  -- a graph that obeys the larger pack obeys the smaller one
  pub obeys_less : (G : Graph) → Obeys σ P' G → Obeys σ P G
  obeys_less G o = record {
    from_node = o.from_node;
    to_node = o.to_node;
    typed_node = o.typed_node;
    heads = λ g. o.heads (given_more g);
    no_edges = o.no_edges;
    literals = o.literals;
    only_literal = o.only_literal;
    never_literal = o.never_literal;
    target = o.target;
    some_object = o.some_object;
    one_object = o.one_object;
  }

  -- both packs are accepted: the second has its graph, and its names are distinct
  module _ (distinct : Distinct σ P') (E : Enumeration P') (has : ¬ NoGraph P') where
    pub yes_remains : (e : Expr) → Satisfied (built σ P) e → Satisfied (built σ P') e
    unfolding CertainYes
    yes_remains e s = (yes_iff σ P' distinct E has e).0 (λ G o. yes_certain σ P e s G (obeys_less G o))

    pub pair_remains : (e : Expr) (n m : Node) → Joins (built σ P) e (core n) (core m) → Joins (built σ P') e (core n) (core m)
    unfolding CertainPair
    pair_remains e n m j =
        let i = node_more (is_core σ P (starts (built_closed σ P) e (core n) (core m) j)) in
        let k = node_more (is_core σ P (ends (built_closed σ P) e (core n) (core m) j)) in
        (pair_iff σ P' distinct E has e n m i k).0 (λ G o. pair_certain σ P e n m j G (obeys_less G o))
