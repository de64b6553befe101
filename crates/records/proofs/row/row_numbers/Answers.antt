-- `row::row_numbers` meets its contract. Assumes nothing.
use Rattle.records.proofs.Terms.{row_made_cut}
use Rattle.records.proofs.row.row_numbers.Goals as goal

pub returns : goal.returns
returns g c = row_made_cut c.args.row (rw c.min-kept.ensures at c.put_bytes.ensures)
