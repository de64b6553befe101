-- `forward::visit::visit_onward` meets its contract. Assumes nothing.
use native.Mathlib.Omega.{arith}
use Rattle.forward.proofs.Stepping.{all_ahead, onward_end, onward_leaf, onward_parts}
use Prim.Native.Nat.{◌/◌}
use Rattle.meaning.specs.Limits.{named_words}
use Rattle.forward.proofs.visit.visit_onward.Goals as goal

pub returns-then-lists-i : goal.returns-then-lists-i
returns-then-lists-i c = onward_end c.requires.0 c.args.w c.args.bits c.requires.1.1 c.if-lists-i.true c.requires.2

pub returns-then-kind-ge-NESTED : goal.returns-then-kind-ge-NESTED
returns-then-kind-ge-NESTED c = let k = c.kind_of-kind.ensures in
    onward_parts c.requires.0 c.args.w c.args.bits c.requires.1.1 (omega (arith, c.if-lists-i.false)) (omega (arith, c.if-kind-ge-NESTED.true))
    c.visit_parts.ensures

pub visit_leaf-requires : goal.visit_leaf-requires
visit_leaf-requires c = (
  (omega arith, all_ahead c.requires.0 c.args.w c.args.bits c.requires.1.1 (omega (arith, c.if-lists-i.false))),
  omega (arith, c.if-kind-ge-NESTED.false),
  (let a = c.requires.0.fits.query.onward (c.args.w / named_words) (omega (arith, c.if-lists-i.false))
      in let b = c.requires.0.fits.query.few in omega arith),
  c.requires.2,
)

pub returns : goal.returns
returns c = let k = c.kind_of-kind.ensures in
    onward_leaf c.requires.0 c.args.w c.args.bits c.requires.1.1 (omega (arith, c.if-lists-i.false)) k (omega (arith, c.if-kind-ge-NESTED.false))
    c.visit_leaf.ensures
