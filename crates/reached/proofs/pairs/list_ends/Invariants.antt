use lib.ListN.{length}
use mathlib.Core.Path.{◌≡◌}
use Prim.Native.Nat.{◌-◌}
use Rattle.reached.proofs.Listing.{Ends}
use Rattle.reached.proofs.pairs.list_ends.Given as goal

abbrev pub invariant-loop-e : goal.invariant-loop-e
invariant-loop-e l = (length l.pairs ≡ length l.initial.pairs) × Ends l.seen l.parts l.start l.named l.initial.pairs l.k l.pairs l.listed l.e

abbrev pub decreases-loop-e : goal.decreases-loop-e
decreases-loop-e l = l.named - l.e
