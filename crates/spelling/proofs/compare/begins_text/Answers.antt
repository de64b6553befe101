-- `begins_text` meets its contract. Assumes nothing.
use Rattle.meaning.proofs.Lists.Library.{starts_begins}
use Rattle.spelling.proofs.compare.begins_text.Goals as goal

pub returns : goal.returns
returns c = starts_begins c.args.text.now c.args.prefix.now c.starts_with.ensures.value
