-- `Cursor::row` meets its contract. Assumes nothing.
use Rattle.meaning.specs.Limits.{max_columns}
use Rattle.pack.specs.Records.{any_byte, row, row_of}
use Rattle.pack.proofs.Reading.{tuple_as}
use Rattle.pack.proofs.cursor.Cursor.row.Goals as goal

pub returns : goal.returns
unfolding row
returns c = tuple_as row_of any_byte max_columns c.args.self c.tuple.result c.tuple.ensures
