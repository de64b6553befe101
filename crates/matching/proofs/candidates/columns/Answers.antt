-- `matching::candidates::columns` meets its contract: the columns of the first i variables. Assumes nothing.
use borrow.Author.Rules.{rules}
use Rattle.matching.proofs.FirstColumn.{seat_start, seat_again, seat_done}
use Rattle.matching.proofs.candidates.columns.Goals as goal

pub loop-i-init : goal.loop-i-init
loop-i-init c = search (seat_start, rules)

pub loop-i-preserved : goal.loop-i-preserved
loop-i-preserved c = search (seat_again, rules)

pub returns : goal.returns
returns c = search (seat_done, rules)
