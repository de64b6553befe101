use Prim.Native.Nat.{◌≤◌}
use Rattle.call_cases.proofs.main.Given as goal

abbrev pub invariant-loop-i : goal.invariant-loop-i
invariant-loop-i l = l.i ≤ 65536
