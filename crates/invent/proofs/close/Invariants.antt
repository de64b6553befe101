use Rattle.invent.specs.Invent.{OfTable}
use Rattle.invent.proofs.Closing.{Closing}
use Rattle.meaning.specs.Limits.{set_words}
use Rattle.meaning.specs.Pack.{Pack}
use Rattle.worklist.specs.Table.{Same, Table, board_of, left}
use Rattle.invent.proofs.close.Given as goal

abbrev pub invariant-loop-number : goal.invariant-loop-number
invariant-loop-number l = Table set_words (board_of l.board) × Same (board_of l.initial.board) (board_of l.board)
    × ((P : Pack) → OfTable l.demands P → Closing P l.initial.board.marked.now (board_of l.board))

abbrev pub decreases-loop-number : goal.decreases-loop-number
decreases-loop-number l = left set_words (board_of l.board)
