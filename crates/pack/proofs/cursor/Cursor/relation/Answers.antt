-- `Cursor::relation` meets its contract. Assumes nothing.
use Rattle.pack.specs.Records.{relation}
use Rattle.pack.proofs.cursor.Cursor.relation.Goals as goal

pub returns : goal.returns
unfolding relation
returns c = c.byte_in.ensures
