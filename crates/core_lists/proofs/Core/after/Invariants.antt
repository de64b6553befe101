use lib.ListN.{length}
use mathlib.Core.Path.{◌≡◌}
use Prim.Native.Nat.{◌+◌, ◌≤◌}
use Rattle.core_lists.specs.Origin.{keys_before}
use Rattle.core_lists.proofs.Core.after.Given as goal

abbrev pub invariant-loop-at : goal.invariant-loop-at
invariant-loop-at l = (l.at-end ≡ length l.self.triples.now) × (l.from ≤ l.at) × (l.at ≤ keys_before (l.origin + 1) l.self.triples.now)
