-- What a pack and a query come to is fixed by their bytes. Assumes nothing.
use mathlib.Core.List.{List}
use mathlib.Core.Path.{◌≡◌, sym, ◌∙◌}
use Prim.Native.Nat.{ℕ}
use Rattle.std.specs.Prelude.{Result, Err}
use Rattle.construct.proofs.Once as once
use Rattle.construct.proofs.Once.{accepted_once, not_given, not_refused, one_graph}
use Rattle.construct.proofs.Refused.{same_refusal}
use Rattle.construct.specs.Outcome as graph
use Rattle.construct.specs.Outcome.{SomeObeys}
use Rattle.grammar.proofs.Agree.{one_expression}
use Rattle.grammar.specs.Grammar.{IsQuery}
use Rattle.graph.specs.declared.Size.{Size}
use Rattle.meaning.specs.NoGraph.{TooLarge}
use Rattle.meaning.specs.Pack.{Pack, Text}
use Rattle.meaning.specs.Query.{Expr}
use Rattle.meaning.specs.declared.refusal.Refusal.{Refusal}
use Rattle.pack.specs.Checked.{accepted, first_refusal}
use Rattle.prepare.specs.Prepared.{Gives, Refuses, no_graph, no_query}

-- an expression, and a pack that some graph obeys
pub not_asked : {A : Type 0} {pack query : Text} {r : Result A Refusal} → Refuses pack query r → (e : Expr) → IsQuery query e → {P : Pack}
    → first_refusal pack ≡ accepted P → ¬ TooLarge P → SomeObeys P → ⊥
not_asked (no_query x q) e i a n o = x e i
not_asked (no_graph f j u) e i a n o = not_refused a n o u

-- a call with a query refuses the pack as build does, the clash of 10 included
pub as_built : {A B : Type 0} {pack query : Text} {e : Refusal} {s : Result A Refusal} → graph.Refuses {A = B} pack (Err e) → (x : Expr) → IsQuery query x
    → Refuses pack query s → Err e ≡ s
as_built u x i (no_query y p) = absurd (y x i)
as_built u x i (no_graph f j v) = once.one_refusal (same_refusal u) v

module _ {pack query : Text} where
  pub one_refusal : {A : Type 0} {r s : Result A Refusal} → Refuses pack query r → Refuses pack query s → r ≡ s
  one_refusal (no_query x q) (no_query y p) = q ∙ sym p
  one_refusal (no_query x q) (no_graph f j v) = absurd (x f j)
  one_refusal (no_graph e i u) (no_query y p) = absurd (y e i)
  one_refusal (no_graph e i u) (no_graph f j v) = once.one_refusal u v

  pub not_both : {A : Type 0} {r : Result A Refusal} {size : Size} {gs : List (List ℕ)} → Refuses pack query r → Gives pack query size gs → ⊥
  not_both (no_query x q) h = x h.expression h.is
  not_both (no_graph e i u) h = not_given u h.graph

  module _ {a b : Size} {fs gs : List (List ℕ)} (g : Gives pack query a fs) (h : Gives pack query b gs) where
    pub one_result : (a ≡ b) × (fs ≡ gs)
    one_result = one_graph g.graph h.graph

    -- the pack and the expression
    pub one_question : ◌≡◌ {A = Pack × Expr} (g.graph.of, g.expression) (h.graph.of, h.expression)
    one_question i = (accepted_once pack g.graph.has.is h.graph.has.is i, one_expression query g.expression h.expression g.is h.is i)
