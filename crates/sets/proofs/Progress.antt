-- Steps after steps. Assumes nothing.
use mathlib.Core.Bool.{Bool, false, true}
use mathlib.Core.List.{List}
use native.Mathlib.Omega.{arith}
use Prim.Native.Nat.{ℕ}
use Rattle.sets.specs.Progress.{Progress}

-- a step after others: further, or as far
pub nearer : (left : List ℕ → ℕ) (c : Bool) (a b d : List ℕ) → Progress left c a b → Progress left true b d → Progress left true a d
nearer left true a b d p q = omega arith
nearer left false a b d p q = rw (← p) q

pub as_near : (left : List ℕ → ℕ) (c : Bool) (a b d : List ℕ) → Progress left c a b → Progress left false b d → Progress left c a d
as_near left c a b d p q = rw q p
