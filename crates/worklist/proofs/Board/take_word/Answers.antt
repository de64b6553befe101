-- `worklist::Board::take_word` meets its contract. Assumes nothing.
use borrow.Author.Rules.{rules}
use mathlib.Core.Path.{refl}
use native.Mathlib.Omega.{arith}
use Rattle.worklist.proofs.Stack.{top_few}
use Rattle.worklist.proofs.Worklist.{take_all, top_inside}
use Rattle.worklist.proofs.Board.take_word.Goals as goal

pub offset_bounds-self-self : goal.offset_bounds-self-self
offset_bounds-self-self c = let a = top_few c.requires.1 in let b = c.requires.1.small in omega arith

pub bounds-self-self : goal.bounds-self-self
bounds-self-self c = let a = top_few c.requires.1 in let b = c.requires.1.room in omega arith

pub returns : goal.returns
returns c n d = (omega arith, refl, top_inside d (omega arith), take_all d (omega arith) (search rules))
