-- `bytes_at` meets its contract. Assumes nothing.
use Rattle.std.proofs.Common.{rules}
use borrow.Author.Tests.{tests}
use Rattle.tables.proofs.FromFn.{from_place}
use Rattle.rule_heads.proofs.bytes_at.Goals as goal

pub returns : goal.returns
returns g c = from_place c.args.numbers.now c.args.at (λ i y q k. search (rules, tests)) c.from_fn.ensures.items c.requires.room
