use lib.Count.{ones}
use Rattle.index.specs.Subjects.{first_at}
use Rattle.meaning.specs.Limits.{seen_words}
use Rattle.forward.specs.Own.{end_at}
use Rattle.forward.specs.Steps.{ObjectIn}
use Rattle.worklist.proofs.Growth.{Sweeping}
use Rattle.worklist.specs.Table.{board_of}
use Rattle.forward.proofs.visit.visit_steps.Given as goal

abbrev pub invariant-loop-left : goal.invariant-loop-left
invariant-loop-left l =
    Sweeping seen_words (λ n. ObjectIn l.triples l.named.own.now (first_at l.named.index.now n) (end_at l.named.index.now n) l.leaf.kind l.leaf.want l.leaf.to)
    l.block l.bits (board_of l.initial.board) (board_of l.board) l.left

abbrev pub decreases-loop-left : goal.decreases-loop-left
decreases-loop-left l = ones l.left
