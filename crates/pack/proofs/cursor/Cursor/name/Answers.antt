-- `Cursor::name` meets its contract. Assumes nothing.
use Rattle.pack.specs.Records.{name}
use Rattle.pack.proofs.cursor.Cursor.name.Goals as goal

pub returns : goal.returns
unfolding name
returns c = c.sized.ensures
