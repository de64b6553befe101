-- The node of a label, as the code says it. Assumes nothing.
use mathlib.Core.List.{List, []}
use mathlib.Core.Path.{◌≡◌, sym, ap, subst, ◌∙◌}
use native.Mathlib.Omega.{arith}
use Prim.Native.Nat.{ℕ, ◌≤◌}
use Rattle.std.specs.Prelude.{Option, Some, None, unwrap_or}
use Rattle.iris.specs.declared.iri.Term.{Term}
use Rattle.iris.specs.Read.{found_of, iri_read}
use Rattle.meaning.specs.Built.{core}
use Rattle.meaning.specs.Certain.{BuiltIri, BuiltLiteral}
use Rattle.meaning.specs.Core.{iri_node, literal_node}
use Rattle.meaning.specs.Limits.{max_nodes, unused}
use Rattle.meaning.specs.Listing.{padded}
use Rattle.meaning.specs.Pack.{Text}
use Rattle.pack.proofs.Accepted.{well_formed_lem}
use Rattle.pack.specs.Checked.{OfPack}
use Rattle.resolve.specs.Listed.{Roomy}
use Rattle.resolve.specs.Search.{HasNumbers, First}
use Rattle.resolve.specs.Wanted.{IriIs, LiteralIs, OfGraph}
use Rattle.meaning.proofs.Cases.{case_some}
use Rattle.spelling.proofs.Reading.{read_back_sound}
use Rattle.spelling.specs.Iri.{plain}
use Rattle.spelling.specs.ReadBack.{read_back, find_by}
use Rattle.spelling.specs.Segment.{segment}
use Rattle.resolve.proofs.Labelled.{iri_label, iri_unlabelled, literal_label, literal_unlabelled}
use Rattle.resolve.proofs.Numbered.{iri_numbers_lem, literal_numbers_lem}
use Rattle.resolve.proofs.OneNode.{one_node, no_node}
use Rattle.resolve.proofs.Records.{padded_length}

none_is_some : {A : Type 0} {x : A} → ◌≡◌ {A = Option A} None (Some x) → ⊥
none_is_some e = let z : ◌≡◌ {A = ℕ} 0 1 = cc in omega arith

some_is : {A : Type 0} {x y : A} → ◌≡◌ {A = Option A} (Some x) (Some y) → x ≡ y
some_is e = cc

at_most : {nodes : List ℕ} {count : ℕ} → Roomy nodes count → count ≤ max_nodes
at_most room = omega (arith, room.few)

module _ (s text : Text) {nodes : List ℕ} {count : ℕ} (room : Roomy nodes count) where
  pub iri_unknown : OfPack s (λ P. None ≡ iri_read (read_back P text)) → OfGraph s nodes count (λ P in_order. IriIs P in_order text unused)
  unfolding iri_read
  iri_unknown is P w in_order listed =
      case_some (read_back P text)
      (λ n. no_node listed (at_most room) (BuiltIri (plain P) P text) (iri_unlabelled s P (well_formed_lem s P w) text n))
      (λ x n. absurd (none_is_some (is P w ∙ ap iri_read n)))

  pub iri_found : {t : Term} {r : Option ℕ} → OfPack s (λ P. Some t ≡ iri_read (read_back P text)) → First (HasNumbers nodes 0 t.constructor t.values) count r
      → OfGraph s nodes count (λ P in_order. IriIs P in_order text (unwrap_or r unused))
  unfolding iri_read
  iri_found {t} {r} is first P w in_order listed =
      let f = well_formed_lem s P w in
      case_some (read_back P text)
      (λ n. absurd (none_is_some (sym (is P w ∙ ap iri_read n))))
      (λ x n. one_node listed (at_most room) (BuiltIri (plain P) P text) (core (iri_node x.0 x.1)) (padded_length x.1)
      (iri_numbers_lem s P f x.0 x.1 (read_back_sound P n).term) (iri_label s P f text x.0 x.1 n)
      (subst (λ (y : Term). First (HasNumbers nodes 0 y.constructor y.values) count r) (some_is (is P w ∙ ap iri_read n)) first))

  pub literal_unknown : OfPack s (λ P. None ≡ found_of (find_by segment P.setting.values text)) → OfGraph s nodes count (λ P in_order. LiteralIs P in_order text unused)
  unfolding found_of
  literal_unknown is P w in_order listed =
      case_some (find_by segment P.setting.values text)
      (λ n. no_node listed (at_most room) (BuiltLiteral (plain P) P text) (literal_unlabelled s P (well_formed_lem s P w) text n))
      (λ v n. absurd (none_is_some (is P w ∙ ap found_of n)))

  pub literal_found : {v : ℕ} {r : Option ℕ} → OfPack s (λ P. Some v ≡ found_of (find_by segment P.setting.values text)) → First (HasNumbers nodes 1 v (padded [])) count r
      → OfGraph s nodes count (λ P in_order. LiteralIs P in_order text (unwrap_or r unused))
  unfolding found_of
  literal_found {v} {r} is first P w in_order listed =
      let f = well_formed_lem s P w in
      case_some (find_by segment P.setting.values text)
      (λ n. absurd (none_is_some (sym (is P w ∙ ap found_of n))))
      (λ u n. one_node listed (at_most room) (BuiltLiteral (plain P) P text) (core (literal_node u)) (padded_length [])
      (λ b i. literal_numbers_lem s P f u b) (literal_label s P f text u n)
      (subst (λ x. First (HasNumbers nodes 1 x (padded [])) count r) (some_is (is P w ∙ ap found_of n)) first))
