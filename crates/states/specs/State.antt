-- A state is a part of a query, or its end, and a node: one number. Its bit stands in a word of its part's nodes. Assumes
-- nothing.
use Rattle.std.specs.Prelude.{ℕ, ◌%◌, ◌*◌, ◌+◌, ◌/◌}
use Rattle.meaning.specs.Limits.{max_nodes, node_words}

unfoldable pub state : ℕ → ℕ → ℕ
state part node = part * max_nodes + node

unfoldable pub part_at : ℕ → ℕ
part_at s = s / max_nodes

unfoldable pub node_at : ℕ → ℕ
node_at s = s % max_nodes

-- the word of a part's states at a block of nodes
unfoldable pub word_at : ℕ → ℕ → ℕ
word_at part block = part * node_words + block
