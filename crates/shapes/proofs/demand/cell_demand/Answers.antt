-- `shapes::demand::cell_demand` meets its contract. Assumes nothing.
use Rattle.shapes.proofs.Demanded.{demand_allows, demand_requires, no_demand}
use Rattle.shapes.proofs.demand.cell_demand.Goals as goal

pub returns : goal.returns
returns c = demand_allows c.if-cell-eq0.false c.requires c.requires_edge.ensures c.if-requires_edge.false
