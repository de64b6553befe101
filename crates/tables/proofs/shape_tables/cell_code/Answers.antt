-- `shapes::cell_code` meets its contract. Assumes nothing.
use Rattle.tables.proofs.Filling.{literal_code, type_code}
use Rattle.tables.proofs.shape_tables.cell_code.Goals as goal

pub returns-then-target-eq-LITERAL : goal.returns-then-target-eq-LITERAL
returns-then-target-eq-LITERAL c = literal_code _ _ c.if-target-eq-LITERAL.true

pub returns : goal.returns
returns c = type_code _ _ c.if-target-eq-LITERAL.false
