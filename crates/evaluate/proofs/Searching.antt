-- Looking for the first invented node. Assumes nothing.
use Rattle.std.proofs.Common.{ℕ, ◌<◌, ◌≤◌, List}
use Rattle.evaluate.specs.Kinds.{kind_at}

-- None of the first n is.
pub record Passed (nodes : List ℕ) (count n : ℕ) : Type 0 where
  pub within : n ≤ count
  pub named : (k : ℕ) → k < n → kind_at nodes k < 2
