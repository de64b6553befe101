-- `Cursor::atom` meets its contract. Assumes nothing.
use Rattle.meaning.specs.Limits.{max_columns}
use Rattle.pack.specs.Records.{atom, atom_of, variable}
use Rattle.pack.proofs.Reading.{tuple_as}
use Rattle.pack.proofs.cursor.Cursor.atom.Goals as goal

pub returns : goal.returns
unfolding atom
returns c = tuple_as atom_of variable max_columns c.args.self c.tuple.result c.tuple.ensures
