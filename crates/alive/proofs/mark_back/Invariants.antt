use Rattle.states.specs.Lists.{lists_of}
use Rattle.worklist.specs.Table.{board_of}
use Rattle.alive.proofs.Growing.{Backing}
use Rattle.alive.proofs.mark_back.Given as goal

abbrev pub invariant-loop-e : goal.invariant-loop-e
invariant-loop-e l = Backing (lists_of l.lists) l.heads l.links l.w l.bits (board_of l.initial.board) (board_of l.board) l.e
