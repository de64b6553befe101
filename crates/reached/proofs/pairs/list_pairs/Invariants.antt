use Rattle.meaning.specs.Limits.{seen_words}
use Rattle.reached.specs.Keys.{pair_key}
use Rattle.reached.specs.Walked.{ListedBelow}
use Rattle.states.specs.Lists.{lists_of}
use Rattle.worklist.specs.Table.{Blank, Same, board_of}
use Rattle.reached.proofs.pairs.list_pairs.Given as goal

abbrev pub invariant-loop-start : goal.invariant-loop-start
invariant-loop-start l =
    Blank seen_words (board_of l.board) × ListedBelow (lists_of l.lists) l.named.count (pair_key l.start 0) l.pairs l.k
    × Same (board_of l.initial.board) (board_of l.board)
