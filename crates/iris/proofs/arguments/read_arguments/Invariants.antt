use lib.ListN.{length}
use Prim.Native.Nat.{◌≤◌}
use Rattle.iris.proofs.ArgumentsRead.{ArgumentsSoFar}
use Rattle.iris.proofs.arguments.read_arguments.Given as goal
use Rattle.pack.specs.Checked.{OfPack}

abbrev pub invariant-loop-n : goal.invariant-loop-n
invariant-loop-n l = (length l.rest ≤ length l.text) × OfPack l.pack (λ P. ArgumentsSoFar P.setting.values l.text l.arity l.n l.rest l.values)
