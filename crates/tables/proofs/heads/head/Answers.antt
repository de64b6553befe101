-- `heads::head` meets its contract. Assumes nothing.
use borrow.Author.Rules.{rules}
use borrow.Author.Tests.{tests}
use Rattle.tables.proofs.FromFn.{from_place}
use Rattle.tables.proofs.heads.head.Goals as goal

pub returns : goal.returns
returns c = from_place c.args.numbers.now c.args.at (λ i y q k. search (rules, tests)) c.from_fn.ensures.items c.requires
