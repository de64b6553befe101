-- `worklist::Board::mark` meets its contract. Assumes nothing.
use native.Mathlib.Omega.{arith}
use Rattle.meaning.proofs.Lists.Masks.{weight_made}
use Rattle.worklist.proofs.Growth.{one_marked}
use Rattle.worklist.proofs.Board.mark.Goals as goal

pub returns : goal.returns
returns c n l t = one_marked _ (weight_made 64 _ (omega arith)) (c.mark_word.ensures n l t)
