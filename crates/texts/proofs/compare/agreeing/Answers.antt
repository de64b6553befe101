-- `compare::agreeing` meets its contract: the first i bytes agree. Assumes nothing.
use mathlib.Core.Path.{sym, ◌∙◌}
use native.Mathlib.Omega.{arith}
use Rattle.texts.proofs.EightBytes.{eight_same}
use Rattle.texts.proofs.compare.agreeing.Goals as goal

pub loop-i-init : goal.loop-i-init
loop-i-init c = (omega arith, λ k h. absurd (let z : ⊥ = omega arith in z))

pub returns-then-eight : goal.returns-then-eight
returns-then-eight c = c.loop-i.invariant

pub returns : goal.returns
returns c = c.loop-i.invariant

pub loop-i-preserved : goal.loop-i-preserved
loop-i-preserved c = (
  omega arith,
  eight_same _ (λ k. omega (arith, c.type_inv.s k)) _ _ _ c.loop-i.invariant.1 (sym c.eight.ensures ∙ c.if-eight.false ∙ c.eight-in-loop-i.ensures),
)
