-- The graph of a pack in its two lists, as the evaluation of a query reads it. Assumes nothing.
use Rattle.std.specs.Prelude.{◌≡◌, ℕ, ◌*◌, ◌≤◌, List, length, take}
use Rattle.construct.specs.Outcome.{SomeObeys}
use Rattle.graph.specs.Fronts.{GraphListed}
use Rattle.meaning.specs.Limits.{node_list_length, node_width, triple_list_length, triple_width}
use Rattle.meaning.specs.NoGraph.{TooLarge}
use Rattle.meaning.specs.Pack.{Pack, Text}
use Rattle.pack.specs.Checked.{accepted, first_refusal}

-- The first count nodes and the first edges triples of these lists are those of the graph of P, which the bytes are.
pub record GraphIn (pack : Text) (P : Pack) (nodes : List ℕ) (count : ℕ) (triples : List ℕ) (edges : ℕ) : Type 0 where
  pub is : first_refusal pack ≡ accepted P
  pub small : ¬ TooLarge P
  pub obeyed : SomeObeys P
  pub listed : GraphListed P count edges (take (count * node_width) nodes) (take (edges * triple_width) triples)
  pub node_room : node_list_length ≤ length nodes
  pub triple_room : triple_list_length ≤ length triples

-- There is such a graph.
pub record SomeGraph (pack : Text) (nodes : List ℕ) (count : ℕ) (triples : List ℕ) (edges : ℕ) : Type 0 where
  pub of : Pack
  pub graph : GraphIn pack of nodes count triples edges
