-- `rounds::count::count_rounds` is safe. Assumes nothing.
use Rattle.construct.proofs.FromSteps.{is_resolved}
use Rattle.rounds.proofs.count.count_rounds.Goals as goal

pub from_rows-requires : goal.from_rows-requires
from_rows-requires c = is_resolved c.in_ok-counts.ensures
