-- What is answered of a query in the graph of a pack: of every finite graph that obeys the pack. Assumes nothing.
use Rattle.std.specs.Prelude.{ℕ, ◌<◌, ◌≤◌, Bool, T, ◌↔◌, List, map, length, take, Err, Ok, Result}
use Rattle.reached.specs.declared.pairs.TooMany.{TooMany}
use Rattle.reached.specs.Keys.{pair_keys}
use Rattle.evaluate.specs.GraphIn.{GraphIn, SomeGraph}
use Rattle.evaluate.specs.Named.{pair_of}
use Rattle.grammar.specs.Grammar.{IsQuery}
use Rattle.meaning.specs.Certain.{CertainYes, PairList, TooManyPairs}
use Rattle.meaning.specs.Limits.{max_pairs}
use Rattle.meaning.specs.Member.{◌∈◌}
use Rattle.meaning.specs.Pack.{Pack, Text}
use Rattle.meaning.specs.Query.{Expr}
use Rattle.query.specs.Answer.{HoldsQuery}
use Rattle.resolve.specs.Wanted.{OfGraph, Wanted}
use Rattle.spelling.specs.Iri.{plain}

-- The numbers are those of pairs of two nodes.
abbrev pub AllPairs : List ℕ → Type 0
AllPairs xs = (x : ℕ) → x ∈ xs → x < pair_keys

-- The lists hold a pack's graph, the tree the query's parts, and `wanted` the number of the predicate or node that each part
-- wants.
pub record Ready (pack query : Text) (tree : List ℕ) (parts : ℕ) (wanted nodes : List ℕ) (count : ℕ) (triples : List ℕ) (edges : ℕ) : Type 0 where
  pub graph : SomeGraph pack nodes count triples edges
  pub held : HoldsQuery query tree parts
  pub room : parts ≤ length tree
  pub resolved : OfGraph pack nodes count (λ P in_order. Wanted P in_order query tree parts wanted)
  pub wanted_room : parts ≤ length wanted

module _ (tree : List ℕ) (parts : ℕ) (wanted nodes : List ℕ) (count : ℕ) (triples : List ℕ) (edges : ℕ) where
  -- They are ready for some pack and some query.
  pub record IsReady : Type 0 where
    pub pack : Text
    pub query : Text
    pub ready : Ready pack query tree parts wanted nodes count triples edges

  -- What holds of every pack and query that they are ready for.
  abbrev pub ForReady : (Text → Text → Type 0) → Type 0
  ForReady Q = (pack query : Text) → Ready pack query tree parts wanted nodes count triples edges → Q pack query

module _ (pack query : Text) (nodes : List ℕ) (count : ℕ) (triples : List ℕ) (edges : ℕ) where
  -- What holds of the pack that the lists are the graph of, and of the query's expression.
  abbrev pub OfQuery : ((P : Pack) → GraphIn pack P nodes count triples edges → Expr → Type 0) → Type 0
  OfQuery Q = (P : Pack) (g : GraphIn pack P nodes count triples edges) (e : Expr) → IsQuery query e → Q P g e

  -- "yes means satisfied in every obeying graph"
  abbrev pub YesIn : Bool → Type 0
  YesIn r = OfQuery (λ P g e. T r ↔ CertainYes (plain P) P e)

  -- "exactly the pairs of named nodes that the query joins in every such graph"; 12 exactly when they are too many
  abbrev pub PairsIn : Result ℕ TooMany → List ℕ → Type 0
  PairsIn (Ok k) found =
      (k ≤ max_pairs) × AllPairs (take k found) × OfQuery (λ P g e. PairList (plain P) P e g.listed.lists.in_order (map pair_of (take k found)) × (¬ TooManyPairs (plain P) P e))
  PairsIn (Err e) found = OfQuery (λ P g e. TooManyPairs (plain P) P e)
