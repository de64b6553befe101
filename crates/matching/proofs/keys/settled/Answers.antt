-- `matching::keys::settled` meets its contract. Assumes nothing.
use Rattle.matching.proofs.HeadKey.{settled_by}
use Rattle.matching.proofs.keys.settled.Goals as goal

pub returns-in-Some : goal.returns-in-Some
returns-in-Some c =
    rw c.is_some.ensures (settled_by c.args.vars.now c.args.env c.args.set.now _ c.in-Some.ensures c.find.result c.find.ensures)
