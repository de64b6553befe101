use lib.Count.{ones}
use Rattle.backward.specs.Steps.{SubjectTo}
use Rattle.meaning.specs.Limits.{state_words}
use Rattle.worklist.proofs.Growth.{Sweeping}
use Rattle.worklist.specs.Table.{board_of}
use Rattle.backward.proofs.mark_steps.Given as goal

abbrev pub invariant-loop-left : goal.invariant-loop-left
invariant-loop-left l = Sweeping state_words (SubjectTo l.starts l.into l.leaf.kind l.leaf.want l.leaf.part) l.block l.bits (board_of l.initial.board) (board_of l.board) l.left

abbrev pub decreases-loop-left : goal.decreases-loop-left
decreases-loop-left l = ones l.left
