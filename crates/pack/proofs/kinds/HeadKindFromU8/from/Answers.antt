-- A number is read as the kind of a head by its contract. Assumes nothing.
use Rattle.pack.proofs.RuleReading.{read_as}
use Rattle.pack.proofs.kinds.HeadKindFromU8.from.Goals as goal

pub returns : goal.returns
returns c = rw c.unwrap_or.ensures (read_as _ _ c.from_number.ensures)
