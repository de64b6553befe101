use Rattle.worklist.specs.Table.{board_of}
use Rattle.backward.proofs.Backward.{Following}
use Rattle.backward.proofs.mark_subjects.Given as goal

abbrev pub invariant-loop-j : goal.invariant-loop-j
invariant-loop-j l = Following l.into l.lo l.hi l.leaf.kind l.leaf.want l.leaf.part (board_of l.initial.board) (board_of l.board) l.j
