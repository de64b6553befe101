-- What read-back answers of the text, where refusals 4 to 6 are not true. Assumes nothing.
use mathlib.Core.Bool.{false}
use mathlib.Core.List.{List}
use mathlib.Core.Option.{Option, none, some}
use mathlib.Core.Path.{◌≡◌, refl, ap, ◌∙◌}
use Prim.Native.Nat.{ℕ}
use Rattle.iris.specs.Read.{iri_read, term}
use Rattle.iris.specs.declared.iri.Term.{Term}
use Rattle.meaning.specs.Pack.{Pack, Text}
use Rattle.meaning.specs.WellFormed.{duplicates, prefix_clash}
use Rattle.spelling.proofs.Injective.{segment_writes}
use Rattle.spelling.proofs.Reading.{SomeArguments, read_back_sound, read_back_complete}
use Rattle.spelling.specs.ReadBack.{ReadsBack, read_back}
use Rattle.std.specs.Prelude.{None, Some}
use Rattle.std.specs.Prelude as Prelude

module _ (P : Pack) (distinct : duplicates P ≡ false) (free : prefix_clash P ≡ false) (args : SomeArguments P) (text : Text) where
  -- every IRI that a constructor spells reads back to that constructor and those values
  pub spelled_is_read : {c : ℕ} {vs : List ℕ} → ReadsBack P text c vs → iri_read (read_back P text) ≡ Some (term c vs)
  unfolding iri_read
  spelled_is_read b = ap iri_read (read_back_complete P segment_writes distinct free args b)

  -- no other text is read
  pub read_is_spelled : {t : Term} → Some t ≡ iri_read (read_back P text) → (c : ℕ) × (vs : List ℕ) × ReadsBack P text c vs × (t ≡ term c vs)
  unfolding iri_read
  read_is_spelled {t} h = go (read_back P text) refl h
    where
      go : (o : Option (ℕ × List ℕ)) → read_back P text ≡ o → Some t ≡ iri_read o → (c : ℕ) × (vs : List ℕ) × ReadsBack P text c vs × (t ≡ term c vs)
      go none e k = cc
      go (some u) e k = (u.0, u.1, read_back_sound P e, cc)

  -- refusal 13: "The text is no IRI of the pack's constructors over its values."
  pub not_read : None ≡ iri_read (read_back P text) → (c : ℕ) (vs : List ℕ) → ReadsBack P text c vs → ⊥
  not_read h c vs b = let z : ◌≡◌ {A = Prelude.Option Term} None (Some (term c vs)) = h ∙ spelled_is_read b in cc
