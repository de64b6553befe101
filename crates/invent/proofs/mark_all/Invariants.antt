use lib.ListN.{length}
use mathlib.Core.Path.{◌≡◌}
use Rattle.invent.specs.Invent.{Leads, Marks, OfTable, Upto}
use Rattle.meaning.specs.Built.{invented}
use Rattle.meaning.specs.Limits.{max_predicates}
use Rattle.meaning.specs.Tables.{set_of_mask}
use Rattle.worklist.specs.Table.{board_of}
use Rattle.invent.proofs.mark_all.Given as goal

abbrev pub invariant-loop-demand : goal.invariant-loop-demand
invariant-loop-demand l = (length l.demand-items ≡ max_predicates)
    × Marks (OfTable l.demands) (λ P. Upto (Leads P (invented (set_of_mask l.mask))) l.demand-index) (board_of l.initial.board) (board_of l.board)
