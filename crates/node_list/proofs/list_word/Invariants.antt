use lib.Count.{ones}
use Rattle.node_list.proofs.SetList.{Wording}
use Rattle.node_list.proofs.list_word.Given as goal

abbrev pub invariant-loop-left : goal.invariant-loop-left
invariant-loop-left l = Wording l.w l.bits l.at l.initial.sets l.sets l.left l.end

abbrev pub decreases-loop-left : goal.decreases-loop-left
decreases-loop-left l = ones l.left
