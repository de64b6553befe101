-- `node_list::argument` meets its contract. Assumes nothing.
use Rattle.std.proofs.Common.{rules}
use Rattle.node_list.proofs.Written.{argument_not, argument_there}
use Rattle.node_list.proofs.argument.Goals as goal

pub returns-then-present : goal.returns-then-present
returns-then-present c = search (argument_there, rules)

pub returns : goal.returns
returns c = search (argument_not, rules)
