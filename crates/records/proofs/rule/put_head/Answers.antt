-- `rule::put_head` meets its contract. Assumes nothing.
use Rattle.records.proofs.RuleParts.{put_head_lem}
use Rattle.records.proofs.rule.put_head.Goals as goal

pub returns : goal.returns
returns c = put_head_lem _ c.requires c.variable_count.ensures c.put.ensures c.head_variables.ensures c.put-2.ensures
    c.head_numbers.ensures c.put-3.ensures
