-- `mixed::mixed_sets` meets its contract. Assumes nothing.
use borrow.Author.Rules.{rules}
use borrow.Author.Tests.{lt-ltb, tests}
use mathlib.Core.Path.{◌≡◌}
use Prim.Native.Nat.{◌<◌}
use Rattle.mixed.proofs.MixedLaws.{first_mixed, later_words}
use Rattle.std.proofs.lemmas.Iterator.{YieldsList-from_slice, cases_from_any}
use Rattle.mixed.proofs.mixed_sets.Goals as goal

pub returns-then-flags-gt1 : goal.returns-then-flags-gt1
returns-then-flags-gt1 c = rw (lt-ltb 1 _ c.if-flags-gt1.true) (first_mixed c.args.flags.now c.if-flags-gt1.true (search rules))

pub returns-else-flags-gt1 : goal.returns-else-flags-gt1
returns-else-flags-gt1 c = later_words c.args.flags.now c.requires c.if-flags-gt1.false (λ w. search rules) c.any.result
    (cases_from_any _ _ _ (λ x. 0 < x) (λ x. x ≡ 0) c.any.ensures.ran (YieldsList-from_slice _ c.iter.ensures.rest) (λ x q k. search (rules, tests)) (λ x q k. search (rules, tests)))
