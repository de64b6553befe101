-- `rule::put_rule` meets its contract. Assumes nothing.
use Rattle.records.proofs.RuleParts.{rule_put}
use Rattle.records.proofs.rule.put_rule.Goals as goal

pub returns : goal.returns
returns c = λ as' d g. rule_put as' _ c.requires (c.put_atoms.ensures as' d g) c.put_head.ensures
