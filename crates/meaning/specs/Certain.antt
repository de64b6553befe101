-- Certain answers: what holds in every finite graph that obeys the pack; and the answers in the built graph, which the
-- theorems compare with them. Assumes nothing.
use Rattle.std.proofs.Math.ListN.{get_elem?}
use Rattle.std.specs.Prelude.{List, [], ◌∷◌, ◌≡◌, ℕ}
use Rattle.std.proofs.Math.Option.{some}
use Rattle.meaning.specs.Built.{BuiltNode, core, invented, IsBuilt, BuiltEdge}
use Rattle.meaning.specs.Core.{Node, CoreNode}
use Rattle.meaning.specs.Graph.{Graph, Name, Spelling, Obeys, Called, NameIri, NameLiteral, name_of, view}
use Rattle.meaning.specs.Limits.{max_pairs}
use Rattle.meaning.specs.Ordered.{ListOf, Over, ◌≺◌}
use Rattle.meaning.specs.Pack.{Pack, Text}
use Rattle.meaning.specs.Query.{View, Expr, Joins, Satisfied}

module _ (σ : Spelling) (P : Pack) where
  -- Yes: satisfied in every graph that obeys the pack. (Where 10 or 11 is true there is none, and they come first.)
  unfoldable pub CertainYes : Expr → Type 0
  CertainYes e = (G : Graph) → Obeys σ P G → Satisfied (view σ P G) e

  -- The query joins the two names in every obeying graph.
  unfoldable pub CertainPair : Expr → Name → Name → Type 0
  CertainPair e n m = (G : Graph) → Obeys σ P G → Joins (view σ P G) e n m

  -- "A pair is listed as its start and end numbers in the node list."
  pub record PairRecord (e : Expr) (nodes : List BuiltNode) (numbers : List ℕ) : Type 0 where
    pub start : ℕ
    pub end : ℕ
    pub from : Node
    pub to : Node
    pub from_at : get_elem? nodes start ≡ some (core from)
    pub to_at : get_elem? nodes end ≡ some (core to)
    pub certain : CertainPair e (name_of σ from) (name_of σ to)
    pub are : numbers ≡ start ∷ end ∷ []

  -- "ascending by start, then end. The pair count is how many are listed." The nodes are those of `NodesInOrder`.
  abbrev pub PairList : Expr → List BuiltNode → List (List ℕ) → Type 0
  PairList e nodes = ListOf ◌≺◌ (PairRecord e nodes)

  -- A pair of named nodes of the built graph that the query joins in every obeying graph.
  abbrev pub NamedPair : Expr → Node × Node → Type 0
  NamedPair e q = CoreNode P q.0 × CoreNode P q.1 × CertainPair e (name_of σ q.0) (name_of σ q.1)

  -- Refusal 12: "Over 4,096 pairs."
  abbrev pub TooManyPairs : Expr → Type 0
  TooManyPairs e = Over max_pairs (NamedPair e)

  -- The spelling gives no two core nodes one name.
  unfoldable pub Distinct : Type 0
  Distinct = (n m : Node) → CoreNode P n → CoreNode P m → name_of σ n ≡ name_of σ m → n ≡ m

  -- ---- what a query sees of the built graph: a core node goes by its name, an invented one has no label

  abbrev pub BuiltIri : Text → BuiltNode → Type 0
  BuiltIri label (core n) = NameIri σ label (name_of σ n)
  BuiltIri label (invented X) = ⊥

  abbrev pub BuiltLiteral : Text → BuiltNode → Type 0
  BuiltLiteral label (core n) = NameLiteral σ label (name_of σ n)
  BuiltLiteral label (invented X) = ⊥

  abbrev pub built : View
  built = record {
    Node = BuiltNode;
    IsNode = IsBuilt P;
    Edge = BuiltEdge P;
    Names = Called P;
    IriLabel = BuiltIri;
    LiteralLabel = BuiltLiteral;
  }
