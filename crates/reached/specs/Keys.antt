-- A pair of nodes as one number. Assumes nothing.
use Rattle.std.specs.Prelude.{ℕ, ◌%◌, ◌*◌, ◌+◌, ◌/◌}
use Rattle.meaning.specs.Limits.{max_nodes}

abbrev pub pair_key : ℕ → ℕ → ℕ
pair_key from to = from * max_nodes + to

abbrev pub pair_from : ℕ → ℕ
pair_from key = key / max_nodes

abbrev pub pair_to : ℕ → ℕ
pair_to key = key % max_nodes

abbrev pub pair_keys : ℕ  -- how many there are
pair_keys = max_nodes * max_nodes
