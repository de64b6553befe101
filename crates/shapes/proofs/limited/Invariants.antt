use lib.Count.{ones}
use Rattle.meaning.specs.Pack.{limits}
use Rattle.shapes.proofs.Passing.{Passing}
use Rattle.shapes.proofs.limited.Given as goal

abbrev pub invariant-loop-left : goal.invariant-loop-left
invariant-loop-left l = Passing limits l.shapes l.mask l.p l.left

abbrev pub decreases-loop-left : goal.decreases-loop-left
decreases-loop-left l = ones l.left
