use lib.Count.{ones}
use Rattle.shapes.proofs.Joining.{Joining}
use Rattle.shapes.proofs.targets.Given as goal

abbrev pub invariant-loop-left : goal.invariant-loop-left
invariant-loop-left l = Joining l.shapes l.mask l.p l.left l.all

abbrev pub decreases-loop-left : goal.decreases-loop-left
decreases-loop-left l = ones l.left
