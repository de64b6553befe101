-- What the function behind the open call asks and answers, once the lengths are known. Assumes nothing.
use Rattle.std.specs.Prelude.{List, Result, ◌++◌, ℕ}
use Rattle.calls.specs.Call.{Contents, LongEnough, Outcome, ◌becomes◌}
use Rattle.graph.specs.Fronts.{graph_lists}
use Rattle.meaning.specs.Pack.{Text}
use Rattle.meaning.specs.declared.refusal.Refusal.{Refusal}
use Rattle.yes_no.specs.Answer.{Gives, Refuses, buffers}
use Rattle.yes_no.specs.declared.YesNo.{YesNo}

-- all lists and buffers are long enough
abbrev pub Room : List ℕ → List ℕ → List ℕ → List ℕ → List ℕ → List ℕ → List ℕ → List ℕ → Type 0
Room nodes triples index rows heads alive waiting stack =
    LongEnough (graph_lists (nodes becomes nodes) (triples becomes triples) (index becomes index)
    ++ buffers (rows becomes rows) (heads becomes heads) (alive becomes alive) (waiting becomes waiting) (stack becomes stack))

-- 2 to 11, or the graph and the answer
abbrev pub Comes : Text → Text → Result YesNo Refusal → Contents → Contents → Contents → Type 0
Comes pack query r nodes triples index = Outcome (Refuses pack query) (Gives pack query) r (graph_lists nodes triples index)
