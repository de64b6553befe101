-- What yes/no answers and leaves (document 01, "Refused, in checking order": yes/no uses 1 to 11). Assumes nothing.
use Rattle.std.specs.Prelude.{T, List, [], ◌∷◌, Result, IsOkAnd, ◌↔◌, ℕ}
use Rattle.calls.specs.Call.{Call, Contents, Lent, ◌at_least◌}
use Rattle.construct.specs.Outcome.{refused_as}
use Rattle.graph.specs.Fronts.{graph_lists}
use Rattle.meaning.specs.Certain.{CertainYes}
use Rattle.meaning.specs.Limits.{heads_length, rows_length, state_words}
use Rattle.meaning.specs.Pack.{Text}
use Rattle.meaning.specs.declared.refusal.Refusal.{Refusal}
use Rattle.prepare.specs.Prepared as Prepared
use Rattle.spelling.specs.Iri.{plain}
use Rattle.yes_no.specs.declared.YesNo.{YesNo}

-- 2, then 3 to 11
abbrev pub Refuses : Text → Text → Result YesNo Refusal → Type 0
Refuses pack query r = Prepared.Refuses pack query r

-- The graph, and the answer. "Yes means satisfied in every obeying graph."
pub record GivesAnswer (pack query : Text) (a : YesNo) (fronts : List (List ℕ)) : Type 0 where
  pub asked : Prepared.Gives pack query a.size fronts
  pub answer : T a.yes ↔ CertainYes (plain asked.graph.of) asked.graph.of asked.expression

abbrev pub Gives : Text → Text → Result YesNo Refusal → List (List ℕ) → Type 0
Gives pack query r fronts = IsOkAnd r (λ a. GivesAnswer pack query a fronts)

-- the working buffers
abbrev pub buffers : Contents → Contents → Contents → Contents → Contents → List Lent
buffers rows heads alive waiting stack =
    rows at_least rows_length ∷ heads at_least heads_length ∷ alive at_least state_words ∷ waiting at_least state_words ∷ stack at_least state_words ∷ []

-- 1 to 11, or the graph and the answer
abbrev pub YesNoAnswers : Text → Text → Result YesNo Refusal → Contents → Contents → Contents → Contents → Contents → Contents → Contents → Contents → Type 0
YesNoAnswers pack query r nodes triples index rows heads alive waiting stack =
    Call (refused_as 1) (Refuses pack query) (Gives pack query) r (graph_lists nodes triples index) (buffers rows heads alive waiting stack)
