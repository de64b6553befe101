-- The built graph by the places of its nodes; the named nodes come first. Assumes nothing.
use Rattle.std.specs.Prelude.{◌≡◌, ℕ, ◌<◌, List, [], ◌∷◌, length}
use Rattle.std.proofs.Math.ListN.{get_elem?}
use Rattle.std.proofs.Math.Option.{some}
use Rattle.answers.specs.Graph.{NumberedGraph}
use Rattle.reached.specs.Keys.{pair_from, pair_to}
use Rattle.evaluate.specs.Listed.{NodePlace, Between}
use Rattle.meaning.specs.Built.{BuiltNode, core}
use Rattle.meaning.specs.Certain.{built}
use Rattle.meaning.specs.Core.{Node}
use Rattle.meaning.specs.Graph.{Spelling}
use Rattle.meaning.specs.Pack.{Pack}

-- The first `named` places are those of the named nodes: "in the built graph, kinds 0 and 1".
pub record NamedFirst (nodes : List BuiltNode) (named : ℕ) : Type 0 where
  pub core_node : (n : ℕ) → n < named → (k : Node) × (get_elem? nodes n ≡ some (core k))
  pub named_place : (n : ℕ) (k : Node) → get_elem? nodes n ≡ some (core k) → n < named

abbrev pub by_place : Spelling → Pack → List BuiltNode → NumberedGraph
by_place σ P nodes = record {
  count = length nodes;
  Edge = λ n p m. Between (built σ P) nodes n m (λ b c. (built σ P).Edge b p c);
  Names = (built σ P).Names;
  IriLabel = λ label n. NodePlace (built σ P) nodes n ((built σ P).IriLabel label);
  LiteralLabel = λ label n. NodePlace (built σ P) nodes n ((built σ P).LiteralLabel label);
}

-- a pair's number taken apart: start and end
abbrev pub pair_of : ℕ → List ℕ
pair_of x = pair_from x ∷ pair_to x ∷ []
