-- `core_graph::keys::object_key` meets its contract. Assumes nothing.
use borrow.Author.Tests.{eq-eqb, ne_eqb}
use native.Mathlib.Omega.{arith}
use Rattle.std.specs.Prelude.{◌*◌, ◌%◌, ◌<◌}
use Rattle.core_graph.specs.Collected.{object_key}
use Rattle.core_graph.proofs.Powers.{bytes_some, padded_lt, last_lt}
use Rattle.meaning.specs.Limits.{term_room}
use Rattle.core_graph.proofs.keys.object_key.Goals as goal
use Rattle.core_graph.proofs.keys.object_key.Goals.{After-lists-pad}

-- the values, padded
small : (c : After-lists-pad) → c.args.k % c.lists-after.result * c.lists-pad.result < term_room
small c =
    rw (c.lists-after.ensures, c.lists-pad.ensures) (padded_lt _ c.requires.more _ (last_lt c.args.k _ c.requires.more))

pub returns-then-head-ne1 : goal.returns-then-head-ne1
unfolding object_key
returns-then-head-ne1 c = rw (ne_eqb _ 1 c.if-head-ne1.true)

pub nonzero_rem-result-2 : goal.nonzero_rem-result-2
unfolding object_key
nonzero_rem-result-2 c = rw c.lists-after.ensures (bytes_some _ c.requires.more)

pub overflow_mul-result-2 : goal.overflow_mul-result-2
unfolding object_key
overflow_mul-result-2 c = omega (arith, small c)

pub overflow_add-result-2 : goal.overflow_add-result-2
unfolding object_key
overflow_add-result-2 c = omega (arith, small c, c.requires.object)

pub returns : goal.returns
unfolding object_key
returns c = rw (eq-eqb _ 1 c.if-head-ne1.false, c.lists-after.ensures, c.lists-pad.ensures)
