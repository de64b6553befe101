use Rattle.worklist.specs.Table.{board_of}
use Rattle.alive.proofs.Blocks.{Ending}
use Rattle.alive.proofs.mark_ends.Given as goal

abbrev pub invariant-loop-block : goal.invariant-loop-block
invariant-loop-block l = Ending l.nodes l.parts (board_of l.initial.board) (board_of l.board) l.block
