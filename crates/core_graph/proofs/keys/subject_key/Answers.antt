-- `core_graph::keys::subject_key` meets its contract. Assumes nothing.
use native.Mathlib.Omega.{arith}
use Rattle.std.specs.Prelude.{◌*◌, ◌/◌, ◌<◌}
use Rattle.core_graph.specs.Collected.{subject_key}
use Rattle.core_graph.proofs.Powers.{bytes_some, padded_lt, before_lt}
use Rattle.meaning.specs.Limits.{term_room}
use Rattle.core_graph.proofs.keys.subject_key.Goals as goal
use Rattle.core_graph.proofs.keys.subject_key.Goals.{After-lists-pad}

-- the values, padded
small : (c : After-lists-pad) → c.args.k / c.lists-after.result * c.lists-pad.result < term_room
small c =
    rw (c.lists-after.ensures, c.lists-pad.ensures)
    (padded_lt _ c.requires.0.arguments _ (before_lt _ c.args.k _ c.requires.0.more c.requires.1))

pub nonzero_div-result : goal.nonzero_div-result
unfolding subject_key
nonzero_div-result c = rw c.lists-after.ensures (bytes_some _ c.requires.0.more)

pub overflow_mul-result-2 : goal.overflow_mul-result-2
unfolding subject_key
overflow_mul-result-2 c = omega (arith, small c)

pub overflow_add-result : goal.overflow_add-result
unfolding subject_key
overflow_add-result c = omega (arith, small c, c.requires.0.subject)

pub returns : goal.returns
unfolding subject_key
returns c = rw (c.lists-after.ensures, c.lists-pad.ensures)
