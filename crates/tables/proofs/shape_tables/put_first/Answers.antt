-- `shapes::put_first` meets its contract. Assumes nothing.
use borrow.Author.Tests.{eq-eqb, ne_eqb}
use Rattle.tables.proofs.shape_tables.put_first.Goals as goal

pub returns-then-table-t-ne0 : goal.returns-then-table-t-ne0
returns-then-table-t-ne0 c = rw (ne_eqb _ _ c.if-table-t-ne0.true)

pub returns : goal.returns
returns c = rw (eq-eqb _ _ c.if-table-t-ne0.false)
