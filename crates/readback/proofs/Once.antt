-- What read-back answers is fixed by the bytes of the pack and of the text: two answers to the same bytes are equal. Assumes
-- nothing.
use mathlib.Core.Path.{◌≡◌, sym, ap, subst, ◌∙◌}
use Rattle.pack.proofs.Accepted.{well_formed_lem}
use Rattle.pack.proofs.Order.{not_both, one_number, one_pack}
use Rattle.meaning.specs.Pack.{Text}
use Rattle.iris.specs.Read.{term}
use Rattle.iris.specs.declared.iri.Term.{Term}
use Rattle.meaning.specs.Refusals.{refusal_of}
use Rattle.meaning.specs.declared.refusal.Refusal.{Refusal}
use Rattle.readback.specs.Answer.{ReadBackAnswers, iri, no_iri, not_well_formed}
use Rattle.std.specs.Prelude.{Result, Ok, Err}
use Rattle.spelling.proofs.Injective.{segment_writes}
use Rattle.spelling.proofs.Reading.{reads_back_once}
use Rattle.spelling.specs.ReadBack.{ReadsBack}

module _ {pack text : Text} {r s : Result Term Refusal} where
  pub answers_once : ReadBackAnswers pack text r → ReadBackAnswers pack text s → r ≡ s
  answers_once (not_well_formed k e q) (not_well_formed m f p) = q ∙ ap (λ k. Err (refusal_of k)) (one_number e f) ∙ sym p
  answers_once (not_well_formed k e q) (no_iri P w n p) = not_both e w
  answers_once (not_well_formed k e q) (iri P c vs w b p) = not_both e w
  answers_once (no_iri P w n q) (not_well_formed m f p) = not_both f w
  answers_once (no_iri P w n q) (no_iri Q v m p) = q ∙ sym p
  answers_once (no_iri P w n q) (iri Q c vs v b p) = absurd (n c vs (subst (λ X. ReadsBack X text c vs) (one_pack v w) b))
  answers_once (iri P c vs w b q) (not_well_formed m f p) = not_both f w
  answers_once (iri P c vs w b q) (no_iri Q v m p) = absurd (m c vs (subst (λ X. ReadsBack X text c vs) (one_pack w v) b))
  answers_once (iri P c vs w b q) (iri Q d ws v a p) =
      let f = well_formed_lem pack Q v in
      let e = reads_back_once Q segment_writes f.distinct f.prefix_free (subst (λ X. ReadsBack X text c vs) (one_pack w v) b) a in
      q ∙ (λ i. Ok (term (e.0 i) (e.1 i))) ∙ sym p
