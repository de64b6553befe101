-- A state at a named node: one number, by a narrower table than that of all nodes. Assumes nothing.
use Rattle.std.specs.Prelude.{ℕ, ◌%◌, ◌*◌, ◌+◌, ◌/◌}
use Rattle.meaning.specs.Limits.{max_core_nodes, named_words}

unfoldable pub seen_state : ℕ → ℕ → ℕ
seen_state part node = part * max_core_nodes + node

unfoldable pub seen_part : ℕ → ℕ
seen_part s = s / max_core_nodes

unfoldable pub seen_node : ℕ → ℕ
seen_node s = s % max_core_nodes

-- the word of a part's states at a block of nodes
unfoldable pub seen_word : ℕ → ℕ → ℕ
seen_word part block = part * named_words + block
