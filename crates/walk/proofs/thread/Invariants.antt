use Prim.Native.Nat.{◌≤◌}
use Rattle.walk.proofs.Links.{Threading}
use Rattle.walk.proofs.thread.Given as goal

abbrev pub invariant-loop-i : goal.invariant-loop-i
invariant-loop-i l = (l.i ≤ l.n) × Threading l.tree l.next l.n l.i
