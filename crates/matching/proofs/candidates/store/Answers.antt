-- `matching::candidates::store` meets its contract. Assumes nothing.
use Rattle.matching.proofs.Collect.{not_full, stored}
use Rattle.matching.proofs.candidates.store.Goals as goal

pub returns : goal.returns
returns c = stored c.args.set.now.ascending _ c.in-Ok.ensures

pub unreachable-requires : goal.unreachable-requires
unreachable-requires c = not_full c.requires c.in-Err.ensures
