-- `Cursor::value` meets its contract. Assumes nothing.
use Rattle.pack.specs.Records.{value}
use Rattle.pack.proofs.cursor.Cursor.value.Goals as goal

pub returns : goal.returns
unfolding value
returns c = c.sized.ensures
