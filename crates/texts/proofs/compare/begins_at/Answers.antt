-- `compare::begins_at` meets its contract: the first bytes agree, and the rest of the one begins the rest of the other. Assumes nothing.
use lib.Seq.{slice}
use mathlib.Core.Path.{◌∙◌}
use native.Mathlib.Omega.{arith}
use Prim.Native.Nat.{◌+◌}
use Rattle.meaning.proofs.Lists.Library.{starts_begins}
use Rattle.meaning.proofs.Lists.Ranges.{part_slice}
use Rattle.texts.proofs.Texts.{too_long, agreeing_start, agreeing_from}
use Rattle.texts.proofs.compare.begins_at.Goals as goal

pub returns-then-m-n : goal.returns-then-m-n
returns-then-m-n c = too_long _ _ _ _ _ c.requires.0 c.requires.1 c.if-m-n.true

pub returns : goal.returns
returns c =
    let s = c.args.s.now in
    let i = c.agreeing-i.result in
    let few = c.agreeing-i.ensures.0 in
    let p = agreeing_from (agreeing_start s c.args.a c.args.n c.args.b c.args.m c.if-m-n.false c.requires.0 c.requires.1) i few c.agreeing-i.ensures.1 in
    let x = part_slice (c.args.a + i) (c.args.a + c.args.n) s (omega (arith, few)) in
    let y = part_slice (c.args.b + i) (c.args.b + c.args.m) s (omega (arith, few, c.if-m-n.false)) in
    starts_begins (slice (c.args.b + i) (c.args.b + c.args.m) s) (slice (c.args.a + i) (c.args.a + c.args.n) s) (rw (← x, ← y) c.starts_with.ensures.value) ∙ p.is
