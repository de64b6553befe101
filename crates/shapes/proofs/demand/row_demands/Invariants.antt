use Rattle.meaning.specs.Limits.{max_predicates}
use Rattle.meaning.specs.Tables.{cell_at}
use Rattle.shapes.specs.Demands.{CellDemand}
use Rattle.shapes.proofs.Made.{Made}
use Rattle.shapes.proofs.demand.row_demands.Given as goal

abbrev pub invariant-loop-p : goal.invariant-loop-p
invariant-loop-p l = Made (λ q. CellDemand (cell_at l.shapes l.t q)) 0 max_predicates l.p l.row
