use Prim.Native.Nat.{◌≤◌}
use Rattle.call_cases.proofs.ask.Given as goal

abbrev pub invariant-loop-i : goal.invariant-loop-i
invariant-loop-i l = l.i ≤ l.queries
