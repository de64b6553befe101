use Rattle.meaning.specs.Limits.{seen_words}
use Rattle.reached.proofs.Walking.{Walking}
use Rattle.states.specs.Lists.{lists_of}
use Rattle.worklist.specs.Table.{Same, board_of, left}
use Rattle.reached.proofs.pairs.walk.Given as goal

abbrev pub invariant-loop-w : goal.invariant-loop-w
invariant-loop-w l = Walking (lists_of l.lists) l.named.count l.start (board_of l.board) × Same (board_of l.initial.board) (board_of l.board)

abbrev pub decreases-loop-w : goal.decreases-loop-w
decreases-loop-w l = left seen_words (board_of l.board)
