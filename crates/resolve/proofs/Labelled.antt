-- A label is that of one node: of the constructor and the values that spell it, or of the value that is spelled so. Assumes
-- nothing.
use mathlib.Core.List.{List}
use mathlib.Core.Logic.{◌↔◌}
use mathlib.Core.Option.{none, some, none-ne-some, some-injective}
use mathlib.Core.Path.{◌≡◌, sym, ap, subst, ◌∙◌}
use Prim.Native.Nat.{ℕ}
use Rattle.pack.proofs.Accepted.{WellFormed}
use Rattle.meaning.specs.Built.{BuiltNode, core, invented, IsBuilt}
use Rattle.meaning.specs.Certain.{BuiltIri, BuiltLiteral}
use Rattle.meaning.specs.Core.{iri_node, literal_node}
use Rattle.meaning.specs.Pack.{Pack, Text}
use Rattle.resolve.proofs.Numbered.{some_arguments, built_core}
use Rattle.spelling.proofs.CoreTerms.{core_in_pack}
use Rattle.spelling.proofs.Injective.{segment_writes, values_differ}
use Rattle.spelling.proofs.Reading.{IsAt, find_sound, find_complete, read_back_sound, read_back_complete}
use Rattle.spelling.proofs.Segments.{segment_inj}
use Rattle.spelling.specs.Iri.{spelling_by, plain}
use Rattle.spelling.specs.ReadBack.{read_back, find_by}
use Rattle.spelling.specs.Segment.{segment}

module _ (s : Text) (P : Pack) (f : WellFormed s P) where
  -- a label is read as the node that is spelled so
  read_as : (text : Text) (d : ℕ) (ws : List ℕ) → IsBuilt P (core (iri_node d ws)) → BuiltIri (plain P) P text (core (iri_node d ws)) → read_back P text ≡ some (d, ws)
  unfolding spelling_by
  read_as text d ws j h =
      read_back_complete P segment_writes f.distinct f.prefix_free (some_arguments s P f) (record { term = core_in_pack P f.named (built_core s P f j); spelled = h })

  pub iri_label : (text : Text) (c : ℕ) (vs : List ℕ) → read_back P text ≡ some (c, vs) → (b : BuiltNode) → IsBuilt P b
      → BuiltIri (plain P) P text b ↔ (b ≡ core (iri_node c vs))
  unfolding spelling_by
  iri_label text c vs e b i = (forth b i, λ q. subst (BuiltIri (plain P) P text) (sym q) (read_back_sound P e).spelled)
    where
      forth : (n : BuiltNode) → IsBuilt P n → BuiltIri (plain P) P text n → n ≡ core (iri_node c vs)
      forth (core (iri_node d ws)) j h =
          ap (λ (x : ℕ × List ℕ). core (iri_node x.0 x.1)) (some-injective (d, ws) (c, vs) (sym (read_as text d ws j h) ∙ e))
      forth (core (literal_node v)) j h = absurd h
      forth (invented X) j h = absurd h

  pub iri_unlabelled : (text : Text) → read_back P text ≡ none → (b : BuiltNode) → IsBuilt P b → BuiltIri (plain P) P text b → ⊥
  iri_unlabelled text e (core (iri_node d ws)) j h = none-ne-some (d, ws) (sym e ∙ read_as text d ws j h)
  iri_unlabelled text e (core (literal_node v)) j h = h
  iri_unlabelled text e (invented X) j h = h

  pub literal_label : (text : Text) (v : ℕ) → find_by segment P.setting.values text ≡ some v → (b : BuiltNode) → IsBuilt P b
      → BuiltLiteral (plain P) P text b ↔ (b ≡ core (literal_node v))
  unfolding spelling_by
  literal_label text v e b i = (forth b i, λ q. subst (BuiltLiteral (plain P) P text) (sym q) at.is)
    where
      at : IsAt segment P.setting.values text v
      at = find_sound segment P.setting.values text v e

      forth : (n : BuiltNode) → IsBuilt P n → BuiltLiteral (plain P) P text n → n ≡ core (literal_node v)
      forth (core (iri_node d ws)) j h = absurd h
      forth (core (literal_node w)) j h =
          let q = values_differ P f.distinct w v (core_in_pack P f.named (built_core s P f j)) at.below (segment_inj _ _ (h ∙ sym at.is)) in
          λ k. core (literal_node (q k))
      forth (invented X) j h = absurd h

  pub literal_unlabelled : (text : Text) → find_by segment P.setting.values text ≡ none → (b : BuiltNode) → IsBuilt P b → BuiltLiteral (plain P) P text b → ⊥
  unfolding spelling_by
  literal_unlabelled text e (core (iri_node d ws)) j h = h
  literal_unlabelled text e (core (literal_node w)) j h =
      let r = find_complete segment P.setting.values text w (record { below = core_in_pack P f.named (built_core s P f j); is = h }) in
      none-ne-some r.0 (sym e ∙ r.1)
  literal_unlabelled text e (invented X) j h = h
