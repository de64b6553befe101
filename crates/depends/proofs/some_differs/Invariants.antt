use Prim.Native.Nat.{◌-◌, ◌≤◌}
use Rattle.depends.proofs.KeySearch.{Looking}
use Rattle.depends.proofs.some_differs.Given as goal

abbrev pub invariant-loop-i : goal.invariant-loop-i
invariant-loop-i l = (l.i ≤ l.n) × Looking l.lefts l.rights l.left l.right 0 l.n l.i

abbrev pub decreases-loop-i : goal.decreases-loop-i
decreases-loop-i l = l.n - l.i
