-- `search::has_numbers` meets its contract. Assumes nothing.
use borrow.Author.Rules.{rules}
use Rattle.resolve.proofs.Searching.{by_arguments, other_kind, other_number}
use Rattle.resolve.proofs.search.has_numbers.Goals as goal

pub returns-then-nodes-at : goal.returns-then-nodes-at
returns-then-nodes-at c = other_kind c.if-nodes-at.true

pub returns-then-nodes-at-2 : goal.returns-then-nodes-at-2
returns-then-nodes-at-2 c = other_number c.if-nodes-at-2.true

pub returns : goal.returns
returns c = by_arguments c.requires (search rules) c.if-nodes-at.false c.if-nodes-at-2.false c.eq.ensures
