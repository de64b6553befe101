-- What build answers and leaves (document 01, "Refused, in checking order": build uses 1 and 3 to 11). Assumes nothing.
use Rattle.std.specs.Prelude.{List, [], ◌∷◌, Result}
use Rattle.calls.specs.Call.{Call, Contents, Lent, ◌at_least◌}
use Rattle.construct.specs.Outcome.{Gives, Refuses, refused_as}
use Rattle.graph.specs.Fronts.{graph_lists}
use Rattle.graph.specs.declared.Size.{Size}
use Rattle.meaning.specs.Limits.{heads_length, rows_length}
use Rattle.meaning.specs.Pack.{Text}
use Rattle.meaning.specs.declared.refusal.Refusal.{Refusal}

-- the working buffers
abbrev pub buffers : Contents → Contents → List Lent
buffers rows heads = rows at_least rows_length ∷ heads at_least heads_length ∷ []

-- 1, 3 to 11, or the graph
abbrev pub BuildAnswers : Text → Result Size Refusal → Contents → Contents → Contents → Contents → Contents → Type 0
BuildAnswers pack r nodes triples index rows heads = Call (refused_as 1) (Refuses pack) (Gives pack) r (graph_lists nodes triples index) (buffers rows heads)
