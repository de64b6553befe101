-- `dependencies::in_columns` meets its contract. Assumes nothing.
use Rattle.names.proofs.Dependency.{shifted}
use Rattle.names.proofs.dependencies.in_columns.Goals as goal

pub returns : goal.returns
returns c = rw (shifted _ c.requires)
