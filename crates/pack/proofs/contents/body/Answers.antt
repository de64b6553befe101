-- `contents::body` meets its contract. Assumes nothing.
use mathlib.Core.Path.{refl}
use native.Mathlib.Omega.{arith}
use Prim.Native.Nat.{◌+◌}
use Rattle.pack.proofs.Sizes.{body_from, size_is, start_up, start_within}
use Rattle.pack.proofs.contents.body.Goals as goal

pub start-at-requires : goal.start-at-requires
start-at-requires c = omega (arith, size_is _ c.requires.0)

pub start-end-requires : goal.start-end-requires
start-end-requires c = omega (arith, size_is _ c.requires.0)

pub invariant_of-result : goal.invariant_of-result
invariant_of-result c = let s = c.args.s.now in
    let k = c.args.k in
    record {
      before = omega (arith, c.start-at.ensures, c.start-end.ensures, start_up s k 1);
      inside = omega (arith, c.start-end.ensures, start_within s (size_is s c.requires.0) (k + 1) (omega (arith, c.requires.1)));
    }

pub returns : goal.returns
returns c = body_from _ _ refl c.start-at.ensures c.start-end.ensures
