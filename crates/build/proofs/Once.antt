-- What build answers and leaves is fixed by the pack's bytes and the lengths of the lent lists and buffers. Assumes nothing.
use Rattle.build.specs.Answer.{BuildAnswers, buffers}
use Rattle.calls.proofs.Once.{Same, SameLengths, call_once}
use Rattle.calls.specs.Call.{Contents}
use Rattle.construct.proofs.Once.{constructs_fixed}
use Rattle.construct.specs.Outcome.{Gives, Refuses}
use Rattle.graph.specs.Fronts.{graph_lists}
use Rattle.graph.specs.declared.Size.{Size}
use Rattle.meaning.specs.Pack.{Text}
use Rattle.meaning.specs.declared.refusal.Refusal.{Refusal}
use Rattle.std.specs.Prelude.{Result}

pub answers_once : (pack : Text) (r s : Result Size Refusal) (nodes nodes₂ triples triples₂ index index₂ rows rows₂ heads heads₂ : Contents)
    → SameLengths (graph_lists nodes triples index) (graph_lists nodes₂ triples₂ index₂) → SameLengths (buffers rows heads) (buffers rows₂ heads₂)
    → BuildAnswers pack r nodes triples index rows heads → BuildAnswers pack s nodes₂ triples₂ index₂ rows₂ heads₂
    → Same (Refuses pack) (Gives pack) r s (graph_lists nodes triples index) (graph_lists nodes₂ triples₂ index₂) (buffers rows heads) (buffers rows₂ heads₂)
answers_once pack r s nodes nodes₂ triples triples₂ index index₂ rows rows₂ heads heads₂ = call_once (constructs_fixed pack)
