-- A graph whose nodes stand in a list, seen by their places. Assumes nothing.
use Rattle.std.specs.Prelude.{◌≡◌, ℕ, ◌<◌, ◌↔◌, List, length}
use Rattle.std.proofs.Math.ListN.{get_elem?}
use Rattle.std.proofs.Math.Option.{some}
use Rattle.meaning.specs.Member.{◌∈◌}
use Rattle.meaning.specs.Query.{View}

module _ (G : View) (nodes : List G.Node) where
  -- The place n is that of a node of which Q holds.
  pub record NodePlace (n : ℕ) (Q : G.Node → Type 0) : Type 0 where
    pub node : G.Node
    pub at : get_elem? nodes n ≡ some node
    pub holds : Q node

  -- The places n and m are those of two nodes of which R holds.
  pub record Between (n m : ℕ) (R : G.Node → G.Node → Type 0) : Type 0 where
    pub from : G.Node
    pub to : G.Node
    pub from_at : get_elem? nodes n ≡ some from
    pub to_at : get_elem? nodes m ≡ some to
    pub holds : R from to

  abbrev pub places : View
  places = record {
    Node = ℕ;
    IsNode = λ n. n < length nodes;
    Edge = λ n p m. Between n m (λ b c. G.Edge b p c);
    Names = G.Names;
    IriLabel = λ label n. NodePlace n (G.IriLabel label);
    LiteralLabel = λ label n. NodePlace n (G.LiteralLabel label);
  }

  -- The list holds each node of the graph once, and nothing else.
  pub record ListsNodes : Type 0 where
    pub listed : (b : G.Node) → (b ∈ nodes) ↔ G.IsNode b
    pub once : (b : G.Node) (n m : ℕ) → get_elem? nodes n ≡ some b → get_elem? nodes m ≡ some b → n ≡ m
