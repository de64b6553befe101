-- `clash` meets its contract: each record is compared with those before it. Assumes nothing.
use borrow.Author.Rules.{rules}
use borrow.Author.Tests.{tests}
use native.Mathlib.Omega.{arith}
use mathlib.Core.Path.{refl}
use Rattle.std.proofs.lemmas.Iterator.{YieldsList-from_range, cases_from_any}
use Rattle.texts.proofs.EarlierRecords.{None, Some, any_says}
use Rattle.texts.proofs.clash.Goals as goal

pub returns : goal.returns
returns c =
    let a = c.args in
    any_says a.key a.s.now a.numbers.now a.at a.n c.any.result
    (cases_from_any c.any.new.self _ c.any.result (Some a.key a.s.now a.numbers.now a.at a.n) (None a.key a.s.now a.numbers.now a.at a.n) c.any.ensures.ran
    (YieldsList-from_range 0 a.n a.n refl (omega arith)) (λ x q k. λ l. search (rules, tests)) (λ x q k. (search (rules, tests), λ l. search (rules, tests))))
