-- `has_duplicates` meets its contract. Assumes nothing.
use mathlib.Core.Bool.{◌||◌}
use mathlib.Core.Path.{◌≡◌, sym, ◌∙◌}
use Rattle.meaning.specs.Tests.{any_two, same_text}
use Rattle.meaning.specs.WellFormed.{duplicates}
use Rattle.texts.proofs.Bodies.{predicates_held, shapes_held, types_held, values_held}
use Rattle.texts.proofs.has_duplicates.Goals as goal
use Rattle.texts.proofs.has_duplicates.Goals.{else-clash, else-clash-2, then-clash, then-clash-2}

pub returns-then-clash-3 : goal.returns-then-clash-3
unfolding duplicates
returns-then-clash-3 c = λ P g.
    let v = any_two same_text P.setting.values in
    let t = any_two same_text P.setting.types in
    let p = any_two same_text P.setting.predicates in
    let e₁ : c.if-clash.value ≡ (v || t) = elim c.if-clash.branch [
      | then-clash k ↦ rw (sym (c.clash.ensures _ (values_held g)) ∙ k.if-clash.true) (k.value-is ∙ k.if-clash.true)
      | else-clash k ↦ rw (sym (c.clash.ensures _ (values_held g)) ∙ k.if-clash.false) (k.value-is ∙ k.clash-else-clash.ensures _ (types_held g))
    ] in
    let e₂ : c.if-clash-2.value ≡ (v || t || p) = elim c.if-clash-2.branch [
      | then-clash-2 k ↦ rw (sym e₁ ∙ k.if-clash-2.true) (k.value-is ∙ k.if-clash-2.true)
      | else-clash-2 k ↦ rw (sym e₁ ∙ k.if-clash-2.false) (k.value-is ∙ k.clash-else-clash-2.ensures _ (predicates_held g))
    ] in
    rw (sym e₂ ∙ c.if-clash-3.true) c.if-clash-3.true

pub returns-else-clash-3 : goal.returns-else-clash-3
unfolding duplicates
returns-else-clash-3 c = λ P g.
    let v = any_two same_text P.setting.values in
    let t = any_two same_text P.setting.types in
    let p = any_two same_text P.setting.predicates in
    let e₁ : c.if-clash.value ≡ (v || t) = elim c.if-clash.branch [
      | then-clash k ↦ rw (sym (c.clash.ensures _ (values_held g)) ∙ k.if-clash.true) (k.value-is ∙ k.if-clash.true)
      | else-clash k ↦ rw (sym (c.clash.ensures _ (values_held g)) ∙ k.if-clash.false) (k.value-is ∙ k.clash-else-clash.ensures _ (types_held g))
    ] in
    let e₂ : c.if-clash-2.value ≡ (v || t || p) = elim c.if-clash-2.branch [
      | then-clash-2 k ↦ rw (sym e₁ ∙ k.if-clash-2.true) (k.value-is ∙ k.if-clash-2.true)
      | else-clash-2 k ↦ rw (sym e₁ ∙ k.if-clash-2.false) (k.value-is ∙ k.clash-else-clash-2.ensures _ (predicates_held g))
    ] in
    rw (sym e₂ ∙ c.if-clash-3.false) (c.clash-else-clash-3.ensures _ (shapes_held g))
