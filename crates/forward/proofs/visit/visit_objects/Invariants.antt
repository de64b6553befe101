use Prim.Native.Nat.{◌+◌}
use Rattle.forward.proofs.Forward.{Visiting}
use Rattle.worklist.specs.Table.{board_of}
use Rattle.forward.proofs.visit.visit_objects.Given as goal

abbrev pub invariant-loop-x : goal.invariant-loop-x
invariant-loop-x l = Visiting l.triples l.own l.lo l.leaf.kind l.leaf.want l.leaf.to (board_of l.initial.board) (board_of l.board) (l.lo + l.x-index)
