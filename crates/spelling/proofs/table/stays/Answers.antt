-- `stays` meets its contract: the rule is computed once over the table. Assumes nothing.
use borrow.Author.Rules.{rules}
use Rattle.spelling.proofs.TableRule.{right, stays_rule}
use Rattle.spelling.specs.Segment.{unreserved}
use Rattle.spelling.proofs.table.stays.Goals as goal

pub returns : goal.returns
unfolding right unreserved
returns c = search (stays_rule, rules)
