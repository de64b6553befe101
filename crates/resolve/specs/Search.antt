-- The search of the node list. Assumes nothing.
use Rattle.std.specs.Prelude.{get_or, List, Option, Some, None, ◌≡◌, ℕ, ◌+◌, ◌*◌, ◌<◌}
use Rattle.meaning.specs.Limits.{max_arguments, node_width}

-- The record of node m has this kind, number and arguments; its type set may be any.
pub record HasNumbers (nodes : List ℕ) (kind number : ℕ) (arguments : List ℕ) (m : ℕ) : Type 0 where
  pub kind_is : get_or nodes (m * node_width) 0 ≡ kind
  pub number_is : get_or nodes (m * node_width + 1) 0 ≡ number
  pub arguments_are : (j : ℕ) → j < max_arguments → get_or nodes (m * node_width + 3 + j) 0 ≡ get_or arguments j 0

-- The first number below count that is in Q, or none.
pub data First (Q : ℕ → Type 0) (count : ℕ) : Option ℕ → Type 0 where
  found : {r : ℕ} → r < count → Q r → ((m : ℕ) → m < r → Q m → ⊥) → First Q count (Some r)
  nowhere : ((m : ℕ) → m < count → Q m → ⊥) → First Q count None
