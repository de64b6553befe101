-- `worklist::Board::mark_word` meets its contract. Assumes nothing.
use native.Mathlib.Omega.{arith}
use Rattle.worklist.proofs.Stack.{top_few}
use Rattle.worklist.proofs.Worklist.{first_room, mark_beside, mark_first, mark_old}
use Rattle.worklist.proofs.Board.mark_word.Goals as goal

pub returns-then-all-old : goal.returns-then-all-old
returns-then-all-old c = λ n l t. mark_old t l _ c.if-all-old.true

pub returns-then-before-ne0 : goal.returns-then-before-ne0
returns-then-before-ne0 c = λ n l t. mark_beside t l _ c.if-before-ne0.true

pub offset_bounds-self-self : goal.offset_bounds-self-self
offset_bounds-self-self c = let a = top_few c.requires.2.stacked in omega arith

pub bounds-self-self : goal.bounds-self-self
bounds-self-self c = let (n, h, t) = c.requires in first_room t h _ c.if-all-old.false (omega arith)

pub overflow_add-self : goal.overflow_add-self
overflow_add-self c = let a = top_few c.requires.2.stacked in omega arith

pub returns : goal.returns
returns c n l t = mark_first t l _ c.if-all-old.false (omega arith)
