use Prim.Native.Nat.{◌-◌, ◌≤◌}
use Rattle.texts.specs.Places.{SameBytes}
use Rattle.texts.proofs.compare.agreeing.Given as goal

abbrev pub invariant-loop-i : goal.invariant-loop-i
invariant-loop-i l = (l.i ≤ l.n) × SameBytes l.s l.a l.b l.i

abbrev pub decreases-loop-i : goal.decreases-loop-i
decreases-loop-i l = l.n - l.i
