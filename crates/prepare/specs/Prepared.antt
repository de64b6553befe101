-- What every call with a query comes to before it looks for answers (document 01, "Refused, in checking order": 2, then 3 to
-- 11). Assumes nothing.
use Rattle.std.specs.Prelude.{length, List, Result, IfOk, IsOkAnd, ◌≡◌, ℕ, ◌≤◌}
use Rattle.calls.specs.Call.{Contents, Outcome}
use Rattle.construct.specs.Outcome as Graph
use Rattle.construct.specs.Outcome.{GivesGraph, refused_as}
use Rattle.grammar.specs.Grammar.{IsQuery}
use Rattle.graph.specs.Fronts.{graph_lists}
use Rattle.graph.specs.declared.Size.{Size}
use Rattle.meaning.specs.Pack.{Text}
use Rattle.meaning.specs.Query.{Expr}
use Rattle.meaning.specs.declared.refusal.Refusal.{Refusal}
use Rattle.prepare.specs.declared.Prepared.{Prepared}
use Rattle.query.specs.Answer.{HoldsQuery, Refusal2}
use Rattle.resolve.specs.Wanted.{OfGraph, Wanted}

-- 2, or 3 to 11
pub data Refuses {A : Type 0} (pack query : Text) (r : Result A Refusal) : Type 0 where
  no_query : Refusal2 query → r ≡ refused_as 2 → Refuses pack query r
  no_graph : (e : Expr) → IsQuery query e → Graph.Refuses pack r → Refuses pack query r

-- The query is an expression within its bounds, and the pack has a graph of this size.
pub record Gives (pack query : Text) (size : Size) (fronts : List (List ℕ)) : Type 0 where
  pub expression : Expr
  pub is : IsQuery query expression
  pub graph : GivesGraph pack size fronts

-- In code the expression's parts stand in a tree.
pub record Readied (pack query : Text) (tree : List ℕ) (p : Prepared) (fronts : List (List ℕ)) : Type 0 where
  pub graph : GivesGraph pack p.size fronts
  pub held : HoldsQuery query tree p.parts
  pub room : p.parts ≤ length tree

abbrev pub Prepares : Text → Text → List ℕ → Result Prepared Refusal → Contents → Contents → Contents → Type 0
Prepares pack query tree r nodes triples index =
    Outcome (Refuses pack query) (λ r fronts. IsOkAnd r (λ p. Readied pack query tree p fronts)) r (graph_lists nodes triples index)

-- Where nothing is refused, the number that each part wants is written: of a predicate, or of a node by its place.
abbrev pub ResolvedIf : Text → Text → List ℕ → Result Prepared Refusal → List ℕ → List ℕ → Type 0
ResolvedIf pack query tree r nodes wanted =
    IfOk r (λ p. OfGraph pack nodes p.size.nodes (λ P in_order. Wanted P in_order query tree p.parts wanted))
