use lib.Count.{ones}
use Rattle.shapes.proofs.Demands.{Joining}
use Rattle.shapes.proofs.demand.demands_of.Given as goal

abbrev pub invariant-loop-left : goal.invariant-loop-left
invariant-loop-left l = Joining l.table l.mask l.left l.all

abbrev pub decreases-loop-left : goal.decreases-loop-left
decreases-loop-left l = ones l.left
