use Rattle.meaning.specs.Limits.{state_words}
use Rattle.states.specs.Lists.{lists_of}
use Rattle.worklist.specs.Table.{Same, board_of, left}
use Rattle.alive.proofs.Growing.{Growing}
use Rattle.alive.proofs.mark_all.Given as goal

abbrev pub invariant-loop-w : goal.invariant-loop-w
invariant-loop-w l = Growing (lists_of l.lists) (board_of l.board) × Same (board_of l.initial.board) (board_of l.board)

abbrev pub decreases-loop-w : goal.decreases-loop-w
decreases-loop-w l = left state_words (board_of l.board)
