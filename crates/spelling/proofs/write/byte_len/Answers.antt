-- `byte_len` meets its contract. Assumes nothing.
use mathlib.Core.Path.{sym, ◌∙◌}
use Rattle.spelling.proofs.Written.{one_long, three_long}
use Rattle.spelling.proofs.write.byte_len.Goals as goal

pub returns-then-stays : goal.returns-then-stays
returns-then-stays c = one_long c.args.b (sym c.stays.ensures ∙ c.if-stays.true)

pub returns-else-stays : goal.returns-else-stays
returns-else-stays c = three_long c.args.b (sym c.stays.ensures ∙ c.if-stays.false)
