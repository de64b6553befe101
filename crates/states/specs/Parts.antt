-- A part of a query, as walks take it from the lists. Assumes nothing.
use Rattle.std.specs.Prelude.{eqb, get_or, length, Bool, ◌||◌, List, ℕ, ◌<◌, ◌≤◌}
use Rattle.meaning.specs.Limits.{max_parts}
use Rattle.query.specs.Tree.{kind_of}
use Rattle.states.specs.State.{state}
use Rattle.walk.specs.Parts.{Child, part_of}
use Rattle.worklist.specs.Table.{Marked}

-- Whether a step of this kind (1 any, 2 by name) takes the predicate p.
abbrev pub takes : ℕ → ℕ → ℕ → Bool
takes kind want p = eqb kind 1 || eqb p want

-- The parts that are marked at the node m.
abbrev pub AliveAt : List ℕ → ℕ → ℕ → Type 0
AliveAt table m j = Marked table (state j m)

-- The part i is there, its own parts stand before it, and after it comes a part or the end.
pub record PartReady (tree next : List ℕ) (i : ℕ) : Type 0 where
  pub short : i < max_parts
  pub in_tree : i < length tree
  pub in_next : i < length next
  pub kind : kind_of tree i ≤ 8
  pub before : (c : ℕ) → Child (part_of tree i) c → c < i
  pub onward : get_or next i 0 ≤ max_parts
