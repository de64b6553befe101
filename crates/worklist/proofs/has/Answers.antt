-- `worklist::has` meets its contract. Assumes nothing.
use lib.Dec.{eqb}
use mathlib.Core.Path.{ap}
use Rattle.worklist.proofs.Marks.{mark_read}
use Rattle.worklist.proofs.has.Goals as goal

pub returns : goal.returns
returns c = ap (λ x. eqb x 1) (mark_read c.args.table.now c.args.x)
