-- From what was read of the text to what read-back answers. Assumes nothing.
use mathlib.Core.Path.{◌≡◌, ap, ◌∙◌}
use Rattle.iris.proofs.SpelledIsRead.{not_read, read_is_spelled}
use Rattle.iris.specs.Read.{iri_read}
use Rattle.iris.specs.declared.iri.Term.{Term}
use Rattle.meaning.specs.Pack.{Pack, Text}
use Rattle.meaning.specs.declared.refusal.Refusal.TheVariants.{NoIri}
use Rattle.meaning.specs.declared.refusal.Refusal.{Refusal}
use Rattle.pack.proofs.Accepted.{WellFormed, well_formed_lem}
use Rattle.pack.proofs.Bounds.{constructor_bounded}
use Rattle.pack.proofs.Unpacking.{unpacked}
use Rattle.pack.specs.Checked.{accepted, well_formed}
use Rattle.readback.specs.Answer.{ReadBackAnswers, no_iri, iri}
use Rattle.spelling.proofs.Reading.{SomeArguments}
use Rattle.spelling.specs.ReadBack.{read_back}
use Rattle.std.specs.Option.{ok_or}
use Rattle.std.specs.Prelude.{Option, None, Some, Result, Ok}

some_arguments : (s : Text) (P : Pack) → WellFormed s P → SomeArguments P
some_arguments s P f k i = (constructor_bounded _ _ (unpacked s P f.read).constructors.0 k i).some_arguments

-- of a well-formed pack
pub found_answer : (pack text : Text) (P : Pack) → well_formed pack ≡ accepted P → (found : Option Term) → found ≡ iri_read (read_back P text) → {r : Result Term Refusal}
    → r ≡ ok_or found NoIri → ReadBackAnswers pack text r
found_answer pack text P w None e q = let f = well_formed_lem pack P w in no_iri P w (not_read P f.distinct f.prefix_free (some_arguments pack P f) text e) q
found_answer pack text P w (Some t) e q =
    let f = well_formed_lem pack P w in
    let (c, vs, b, is) = read_is_spelled P f.distinct f.prefix_free (some_arguments pack P f) text e in
    iri P c vs w b (q ∙ ap (λ (u : Term). Ok u) is)
