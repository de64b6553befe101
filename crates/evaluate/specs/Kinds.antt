-- The kinds of the nodes in a list of node records: "0 IRI, 1 literal, 2 invented literal, 3 invented other". Assumes nothing.
use Rattle.std.specs.Prelude.{ℕ, ◌*◌, ◌<◌, ◌≤◌, List, slice_index}
use Rattle.meaning.specs.Limits.{node_width}

abbrev pub kind_at : List ℕ → ℕ → ℕ
kind_at nodes n = slice_index nodes (n * node_width)

-- r is the first of the count nodes that is invented; or there is none, and r is the count.
pub record FirstInvented (nodes : List ℕ) (count r : ℕ) : Type 0 where
  pub within : r ≤ count
  pub before : (n : ℕ) → n < r → kind_at nodes n < 2
  pub here : r < count → 2 ≤ kind_at nodes r
