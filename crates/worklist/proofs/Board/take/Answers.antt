-- `worklist::Board::take` meets its contract. Assumes nothing.
use borrow.Author.Rules.{rules}
use native.Mathlib.Omega.{arith}
use Rattle.worklist.proofs.Stack.{top_few}
use Rattle.worklist.proofs.Worklist.{take_last, take_one}
use Rattle.worklist.proofs.Board.take.Goals as goal

pub offset_bounds-self-self : goal.offset_bounds-self-self
offset_bounds-self-self c = let a = top_few c.requires.1 in let b = c.requires.1.small in omega arith

pub bounds-self-self : goal.bounds-self-self
bounds-self-self c = let a = top_few c.requires.1 in let b = c.requires.1.room in omega arith

pub returns-then-left-eq0 : goal.returns-then-left-eq0
returns-then-left-eq0 c n d = (omega arith, take_last d (omega arith) (search rules) c.if-left-eq0.true)

pub returns-else-left-eq0 : goal.returns-else-left-eq0
returns-else-left-eq0 c n d = (omega arith, take_one d (omega arith) (search rules) c.if-left-eq0.false)
