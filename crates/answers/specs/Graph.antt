-- A graph whose nodes are numbers, and when the code's lists hold it and know the names of a query. Assumes nothing.
use Rattle.std.specs.Prelude.{get_or, ◌↔◌, ◌≡◌, ℕ, ◌<◌}
use Rattle.states.specs.Lists.{Lists}
use Rattle.reached.specs.Keys.{pair_key}
use Rattle.index.specs.Triples.{TripleIn}
use Rattle.meaning.specs.Limits.{max_predicates}
use Rattle.meaning.specs.Pack.{Text}
use Rattle.meaning.specs.Query.{Expr, Joins, View}
use Rattle.query.specs.Tree.{kind_of}
use Rattle.walk.specs.Parts.{part_text}

-- The nodes are the numbers below count.
pub record NumberedGraph : Type 1 where
  pub count : ℕ
  pub Edge : ℕ → ℕ → ℕ → Type 0
  pub Names : Text → ℕ → Type 0
  pub IriLabel : Text → ℕ → Type 0
  pub LiteralLabel : Text → ℕ → Type 0

abbrev pub view : NumberedGraph → View
view G = record {
  Node = ℕ;
  IsNode = λ n. n < G.count;
  Edge = G.Edge;
  Names = G.Names;
  IriLabel = G.IriLabel;
  LiteralLabel = G.LiteralLabel;
}

-- The lists hold the graph: its edges are exactly the triples; they join nodes, and are by predicates of the pack.
pub record HeldIn (G : NumberedGraph) (L : Lists) : Type 0 where
  pub nodes : G.count ≡ L.nodes
  pub edges : (s p o : ℕ) → G.Edge s p o ↔ TripleIn L.triples L.edges s p o
  pub joins : (s p o : ℕ) → G.Edge s p o → (s < G.count) × (o < G.count)
  pub predicates : (s p o : ℕ) → G.Edge s p o → p < max_predicates

-- Each part that has a name or a label asks for the predicate or the node that this belongs to.
pub record WantedResolved (G : NumberedGraph) (q : Text) (L : Lists) : Type 0 where
  pub steps : (i : ℕ) → i < L.parts → kind_of L.tree i ≡ 2 → (p : ℕ) → p < max_predicates → G.Names (part_text q L.tree i) p ↔ (p ≡ get_or L.wanted i 0)
  pub iris : (i : ℕ) → i < L.parts → kind_of L.tree i ≡ 3 → (n : ℕ) → n < G.count → G.IriLabel (part_text q L.tree i) n ↔ (n ≡ get_or L.wanted i 0)
  pub literals : (i : ℕ) → i < L.parts → kind_of L.tree i ≡ 4 → (n : ℕ) → n < G.count → G.LiteralLabel (part_text q L.tree i) n ↔ (n ≡ get_or L.wanted i 0)

-- x is the number of a pair that the expression joins, of two of the first `named` nodes.
pub record JoinedPair (G : NumberedGraph) (e : Expr) (named x : ℕ) : Type 0 where
  pub from : ℕ
  pub to : ℕ
  pub from_named : from < named
  pub to_named : to < named
  pub joined : Joins (view G) e from to
  pub number : x ≡ pair_key from to
