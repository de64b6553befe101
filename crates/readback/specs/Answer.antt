-- What read-back answers (document 01, "What the service does" and "Refused, in checking order"). Assumes nothing.
use Rattle.std.specs.Prelude.{List, Result, Ok, Err, ◌≡◌, ℕ}
use Rattle.iris.specs.Read.{term}
use Rattle.iris.specs.declared.iri.Term.{Term}
use Rattle.meaning.specs.Pack.{Pack, Text}
use Rattle.meaning.specs.Refusals.{refusal_of}
use Rattle.meaning.specs.declared.refusal.Refusal.TheVariants.{NoIri}
use Rattle.meaning.specs.declared.refusal.Refusal.{Refusal}
use Rattle.pack.specs.Checked.{well_formed, refused, accepted}
use Rattle.spelling.specs.ReadBack.{ReadsBack}

-- "Read-back uses 3 to 7, then 13": "The text is no IRI of the pack's constructors over its values." Else "the constructor number
-- and, in argument order, as many value numbers as its arity, 65,535 in places unused".
pub data ReadBackAnswers (pack text : Text) (r : Result Term Refusal) : Type 0 where
  not_well_formed : (k : ℕ) → well_formed pack ≡ refused k → r ≡ Err (refusal_of k) → ReadBackAnswers pack text r
  no_iri : (P : Pack) → well_formed pack ≡ accepted P → ((c : ℕ) (vs : List ℕ) → ReadsBack P text c vs → ⊥) → r ≡ Err NoIri → ReadBackAnswers pack text r
  iri : (P : Pack) (c : ℕ) (vs : List ℕ) → well_formed pack ≡ accepted P → ReadsBack P text c vs → r ≡ Ok (term c vs) → ReadBackAnswers pack text r
