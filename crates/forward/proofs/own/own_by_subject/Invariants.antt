use lib.ListN.{length}
use mathlib.Core.Path.{◌≡◌}
use Prim.Native.Nat.{◌≤◌}
use Rattle.forward.proofs.Owning.{PartsListed}
use Rattle.forward.proofs.own.own_by_subject.Given as goal

abbrev pub invariant-loop-n : goal.invariant-loop-n
invariant-loop-n l = (l.n ≤ l.named) × (length l.own ≡ length l.initial.own) × PartsListed l.triples l.named l.index l.own l.n
