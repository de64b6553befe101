-- `Cursor::term` meets its contract. Assumes nothing.
use Rattle.meaning.specs.Limits.{max_arguments}
use Rattle.pack.specs.Records.{term, term_of, variable}
use Rattle.pack.proofs.Reading.{tuple_as}
use Rattle.pack.proofs.cursor.Cursor.term.Goals as goal

pub returns : goal.returns
unfolding term
returns c = tuple_as term_of variable max_arguments c.args.self c.tuple.result c.tuple.ensures
