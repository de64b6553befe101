-- Proved cases of the grammar: texts, and the expression of each or that it has none (refusal 2). Assumes nothing.
use Rattle.std.specs.Prelude.{List, [], ◌∷◌}
use Rattle.std.proofs.Math.Option.{Option, none, some}
use Rattle.meaning.specs.Ascii.{ascii}
use Rattle.meaning.specs.Pack.{Text}
use Rattle.meaning.specs.Query.{Expr, stay, step, any_step, at_iri, nested, sequence, union, star}
use Rattle.grammar.specs.Grammar.{IsQuery}

pub record Case : Type 0 where
  pub text : Text
  pub expression : Option Expr

-- The text is a query with this expression, or none.
abbrev pub Says : Text → Option Expr → Type 0
Says q (some e) = IsQuery q e
Says q none = (e : Expr) → IsQuery q e → ⊥

abbrev family : Expr
family = step (ascii "family")

abbrev lead : Expr
lead = step (ascii "lead")

abbrev name : Expr
name = step (ascii "name")

abbrev pub cases : List Case
cases =
    record { text = ascii "name**"; expression = some (star (star name)) }  -- P: "`name**` is read"
    ∷ record { text = ascii "name|"; expression = none }  -- P: "`name|` is 2"
    ∷ record { text = ascii "()"; expression = some stay }
    ∷ record { text = ascii "family/lead/name"; expression = some (sequence (sequence family lead) name) }
    ∷ record { text = ascii "(family/lead)*"; expression = some (star (sequence family lead)) }
    ∷ record { text = ascii "[family/lead]/name"; expression = some (sequence (nested (sequence family lead)) name) }
    ∷ record { text = ascii "<sty:x9>"; expression = some (at_iri (ascii "sty:x9")) }
    ∷ record { text = ascii "name|_/<>"; expression = some (union name (sequence any_step (at_iri []))) }
    ∷ record { text = ascii "<(>|<[>"; expression = some (union (at_iri (ascii "(")) (at_iri (ascii "["))) }
    ∷ record { text = []; expression = none }
    ∷ record { text = ascii "[]"; expression = none }
    ∷ record { text = ascii "(name"; expression = none }
    ∷ record { text = ascii "name//name"; expression = none }
    ∷ record { text = ascii "abcdefghijklmnopq"; expression = none }
    ∷ []
