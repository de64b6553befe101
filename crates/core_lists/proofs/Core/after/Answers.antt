-- `core_lists::Core::after` meets its contract: what stands before place `at` is of this origin or an earlier one. Assumes nothing.
use borrow.Author.Rules.{rules}
use native.Mathlib.Omega.{arith}
use Prim.Native.Nat.{◌+◌}
use Rattle.core_lists.proofs.Origin.{keys_le, keys_mono, pass, pass_other}
use Rattle.core_lists.proofs.Core.after.Goals as goal

pub loop-at-init : goal.loop-at-init
loop-at-init c = let a = c.args in (search rules, search rules, omega (arith, c.requires, keys_mono a.origin (a.origin + 1) (omega arith) a.self.now.triples.now))

pub returns-then-self-at : goal.returns-then-self-at
returns-then-self-at c = let l = c.loop-at in let k = c.args.self.now in
    pass_other k.triples.now k.fits.triples_ascend c.args.origin l.at (omega arith) (omega (arith, c.requires, l.invariant.1)) l.invariant.2
    c.if-self-at.true

pub loop-at-preserved : goal.loop-at-preserved
loop-at-preserved c = let l = c.loop-at in let k = c.args.self.now in
    (search rules, search rules, pass k.triples.now k.fits.triples_ascend c.args.origin l.at (omega arith) c.if-self-at.false)

pub returns : goal.returns
returns c = let l = c.loop-at in omega (arith, l.invariant.2, keys_le (c.args.origin + 1) c.args.self.now.triples.now)
