-- `has_prefix_clash` meets its contract. Assumes nothing.
use Rattle.texts.proofs.Bodies.{prefixes_say, some_constructors}
use borrow.Author.Rules.{rules}
use Rattle.texts.proofs.has_prefix_clash.Goals as goal

pub clash-requires : goal.clash-requires
clash-requires c = search (some_constructors, rules)

pub returns : goal.returns
returns c = λ P g. prefixes_say c.clash.ensures P g
