-- Which states are alive, and whether the root is alive somewhere. Assumes nothing.
use Rattle.std.specs.Prelude.{length, Bool, false, true, List, ◌↔◌, ℕ, ◌-◌, ◌<◌, ◌≤◌}
use Rattle.states.specs.Lists.{AliveIn, Lists}
use Rattle.meaning.specs.Limits.{state_words}
use Rattle.states.specs.State.{state}
use Rattle.worklist.specs.Table.{Marked}

-- The table says which states are alive.
pub record Living (L : Lists) (table : List ℕ) : Type 0 where
  pub long : state_words ≤ length table
  pub alive : (i n : ℕ) → i ≤ L.parts → n < L.nodes → Marked table (state i n) ↔ AliveIn L i n

-- Whether the part i is marked at some of the first nodes.
abbrev pub SomeAt : Bool → List ℕ → ℕ → ℕ → Type 0
SomeAt true table nodes i = (n : ℕ) × (n < nodes) × Marked table (state i n)
SomeAt false table nodes i = (n : ℕ) → n < nodes → Marked table (state i n) → ⊥

-- "Yes means that some two nodes are joined": the root is alive at some node, or at none.
abbrev pub Yes : Bool → Lists → Type 0
Yes true L = (n : ℕ) × (n < L.nodes) × AliveIn L (L.parts - 1) n
Yes false L = (n : ℕ) → n < L.nodes → AliveIn L (L.parts - 1) n → ⊥
