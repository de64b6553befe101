-- `is_dangling` meets its contract. Assumes nothing.
use mathlib.Core.Bool.{not, ◌&&◌}
use mathlib.Core.Path.{◌≡◌, sym, ap, ◌∙◌}
use Rattle.meaning.specs.Tests.{every}
use Rattle.meaning.specs.WellFormed.{dangling, good_dependency, good_row, good_rule, good_shape}
use Rattle.names.proofs.is_dangling.Goals as goal
use Rattle.names.proofs.is_dangling.Goals.{
  then-good_dependencies,
  else-good_dependencies,
  then-good_shapes,
  else-good_shapes,
  then-good_rules,
  else-good_rules,
}

pub returns : goal.returns
unfolding dangling
returns c = λ P g.
    let d = every (good_dependency P) P.setting.dependencies in
    let s = every (good_shape P) P.setting.shapes in
    let r = every (good_rule P) P.setting.rules in
    let w = every (good_row P) P.rows in
    let e₁ : c.if-good_dependencies.value ≡ (d && s) = elim c.if-good_dependencies.branch [
      | then-good_dependencies k ↦ rw (sym (c.good_dependencies.ensures P g.setting) ∙ k.if-good_dependencies.true) (k.value-is ∙ k.good_shapes.ensures P g.setting)
      | else-good_dependencies k ↦ rw (sym (c.good_dependencies.ensures P g.setting) ∙ k.if-good_dependencies.false) (k.value-is ∙ k.if-good_dependencies.false)
    ] in
    let e₂ : c.if-good_shapes.value ≡ (d && s && r) = elim c.if-good_shapes.branch [
      | then-good_shapes k ↦ rw (sym e₁ ∙ k.if-good_shapes.true) (k.value-is ∙ k.good_rules.ensures P g.setting)
      | else-good_shapes k ↦ rw (sym e₁ ∙ k.if-good_shapes.false) (k.value-is ∙ k.if-good_shapes.false)
    ] in
    let e₃ : c.if-good_rules.result ≡ (d && s && r && w) = elim c.if-good_rules.branch [
      | then-good_rules k ↦ rw (sym e₂ ∙ k.if-good_rules.true) (k.result-is ∙ k.good_rows.ensures P g)
      | else-good_rules k ↦ rw (sym e₂ ∙ k.if-good_rules.false) (k.result-is ∙ k.if-good_rules.false)
    ] in
    ap not e₃
