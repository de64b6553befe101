-- `spread::pass` meets its contract. Assumes nothing.
use borrow.Author.Rules.{rules}
use native.Mathlib.Omega.{arith}
use Rattle.spread.proofs.Spreading.{pass_adds, pass_more, pass_nearer, pass_same}
use mathlib.Core.Bool.{true≢false}
use mathlib.Core.Path.{refl, sym}
use Rattle.spread.proofs.pass.Goals as goal

pub returns-then-new-old : goal.returns-then-new-old
returns-then-new-old c = (
  λ S tab. pass_same c.args.shapes.now c.args.key c.targets.result c.args.masks.now (omega (arith, c.requires.1.to, c.requires.2))
      (search rules) (omega (arith, c.targets.type_inv)) c.targets.ensures S tab c.if-new-old.true,
  refl,
  λ e. absurd (true≢false (sym e)),
)

pub returns : goal.returns
returns c = (
  λ S tab. pass_more c.args.shapes.now c.args.key c.targets.result c.args.masks.now (omega (arith, c.requires.1.to, c.requires.2))
      (search rules) (omega (arith, c.targets.type_inv)) c.targets.ensures S tab,
  pass_nearer c.args.shapes.now c.args.key c.targets.result c.args.masks.now (omega (arith, c.requires.1.to, c.requires.2))
      (search rules) (omega (arith, c.targets.type_inv)) c.targets.ensures c.if-new-old.false,
  λ e. pass_adds c.args.shapes.now c.args.key c.targets.result c.args.masks.now (omega (arith, c.requires.1.to, c.requires.2))
      (search rules) (omega (arith, c.targets.type_inv)) c.targets.ensures c.if-new-old.false,
)
