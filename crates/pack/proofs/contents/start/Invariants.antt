use Prim.Native.Nat.{◌-◌, ◌≤◌}
use Rattle.pack.proofs.Sizes.{Summed}
use Rattle.pack.proofs.contents.start.Given as goal

abbrev pub invariant-loop-i : goal.invariant-loop-i
invariant-loop-i l = (l.i ≤ l.k) × Summed l.s l.i l.at

abbrev pub decreases-loop-i : goal.decreases-loop-i
decreases-loop-i l = l.k - l.i
