-- `mixed::mixed_node` meets its contract. Assumes nothing.
use borrow.Author.Rules.{rules}
use Rattle.mixed.proofs.MixedLaws.{mixed_iri, mixed_literal}
use Rattle.mixed.proofs.mixed_node.Goals as goal

pub returns-then-key-lt-FIRST_LITERAL : goal.returns-then-key-lt-FIRST_LITERAL
returns-then-key-lt-FIRST_LITERAL c = search (mixed_iri, rules)

pub returns : goal.returns
returns c = search (mixed_literal, rules)
