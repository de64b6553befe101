use Prim.Native.Nat.{ℕ, ◌*◌, ◌-◌, ◌<◌}
use Rattle.states.specs.State.{state}
use Rattle.worklist.specs.Table.{Marked}
use Rattle.alive.proofs.some_alive.Given as goal

abbrev pub invariant-loop-block : goal.invariant-loop-block
invariant-loop-block l = (k : ℕ) → k < l.nodes → k < l.block * 64 → Marked l.alive (state (l.parts - 1) k) → ⊥
