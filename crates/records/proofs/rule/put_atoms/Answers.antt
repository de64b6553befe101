-- `rule::put_atoms` meets its contract. Assumes nothing.
use Rattle.records.proofs.RuleParts.{put_atoms_lem}
use Rattle.records.proofs.rule.put_atoms.Goals as goal

pub returns : goal.returns
returns c = λ as' d g. put_atoms_lem _ g c.requires c.put.ensures (c.rule_atoms.ensures as' d g) c.put-2.ensures
