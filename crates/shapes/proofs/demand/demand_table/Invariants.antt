use mathlib.Core.List.{[]}
use Rattle.meaning.specs.Limits.{max_types}
use Rattle.shapes.specs.Demands.{RowDemands}
use Rattle.shapes.proofs.Made.{Made}
use Rattle.shapes.proofs.demand.demand_table.Given as goal

abbrev pub invariant-loop-t : goal.invariant-loop-t
invariant-loop-t l = Made (RowDemands l.shapes) [] max_types l.t l.table
