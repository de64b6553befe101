-- `cases::first_refusal` is safe: where the check lets the pack pass, its numbers are what `is_broken` asks. Assumes nothing.
use Rattle.construct.proofs.FromSteps.{is_resolved}
use Rattle.cases.proofs.first_refusal.Goals as goal

pub is_broken-requires : goal.is_broken-requires
is_broken-requires c = is_resolved c.in_ok-counts.ensures
