-- What the reader says of a text. Assumes nothing.
use Rattle.std.specs.Prelude.{length, List, Option, Some, None, ℕ, ◌≤◌}
use Rattle.meaning.specs.Pack.{Text}
use Rattle.meaning.specs.Query.{Expr}
use Rattle.grammar.specs.Grammar.{IsQuery}
use Rattle.query.specs.Tree.{Holds}

-- Refusal 2: "The query is no expression within its bounds."
abbrev pub Refusal2 : Text → Type 0
Refusal2 q = (e : Expr) → IsQuery q e → ⊥

-- The parts of t below n hold the expression of the query; there are no more parts than bytes.
pub record HoldsQuery (q : Text) (t : List ℕ) (n : ℕ) : Type 0 where
  pub expression : Expr
  pub query : IsQuery q expression
  pub holds : Holds q t 0 expression n
  pub few : n ≤ length q

abbrev pub Answered : Option ℕ → Text → List ℕ → Type 0
Answered (Some n) q t = HoldsQuery q t n
Answered None q t = Refusal2 q
