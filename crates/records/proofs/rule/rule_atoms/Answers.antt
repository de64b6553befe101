-- `rule::rule_atoms` meets its contract: the atoms before the cursor are put. Assumes nothing.
use Rattle.records.proofs.AtomLoop.{atoms_done, atoms_on, atoms_start, atoms_stuck}
use Rattle.records.proofs.Putting.{put_as}
use Rattle.records.proofs.rule.rule_atoms.Goals as goal

pub loop-i-init : goal.loop-i-init
loop-i-init c = atoms_start _

pub returns-in_default : goal.returns-in_default
returns-in_default c = λ as' d g. atoms_stuck c.loop-i.invariant c.loop-i-test.true c.in_default.ensures g

pub loop-i-preserved : goal.loop-i-preserved
loop-i-preserved c = let q = put_as c.atom_numbers.ensures c.put.ensures in
    atoms_on c.loop-i.invariant c.in-Some.ensures c.loop-i-test.true c.args.rule.few q

pub returns : goal.returns
returns c = λ as' d g. atoms_done c.loop-i.invariant c.loop-i-test.false c.args.rule.few g
