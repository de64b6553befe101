-- What is left of a pack besides its graph: the numbers of its setting. Assumes nothing.
use Rattle.std.specs.Prelude.{ℕ, List, Result, Ok, Err, IfOk}
use Rattle.checks.specs.Checked.{SettingLoaded}
use Rattle.construct.specs.declared.PackGraph.{PackGraph}
use Rattle.graph.specs.declared.Size.{Size}
use Rattle.meaning.specs.Pack.{Text}
use Rattle.meaning.specs.declared.refusal.Refusal.{Refusal}

-- the size of the graph, or the refusal
abbrev pub size_of : Result PackGraph Refusal → Result Size Refusal
size_of (Ok g) = Ok g.size
size_of (Err e) = Err e

-- Where there is no refusal, the counts and the numbers are those of the pack's setting.
abbrev pub LoadedIf : Text → Result PackGraph Refusal → List ℕ → Type 0
LoadedIf pack r numbers = IfOk r (λ g. SettingLoaded pack g.counts numbers)
