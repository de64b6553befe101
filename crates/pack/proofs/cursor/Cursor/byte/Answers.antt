-- `Cursor::byte` meets its contract. Assumes nothing.
use Rattle.pack.proofs.Reading.{byte_got, byte_not}
use Rattle.pack.proofs.cursor.Cursor.byte.Goals as goal

pub returns-then-self : goal.returns-then-self
returns-then-self c = byte_not _ c.if-self.true

pub returns : goal.returns
returns c = byte_got _ c.if-self.false c.past.ensures
