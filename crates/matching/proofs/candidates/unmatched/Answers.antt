-- `matching::candidates::unmatched` meets its contract. Assumes nothing.
use Rattle.matching.proofs.Prepare.{unmatched_by}
use Rattle.matching.proofs.candidates.unmatched.Goals as goal

pub returns : goal.returns
returns c = unmatched_by c.contains.result c.args.counts c.args.count c.contains.ensures.cases
