-- `alive::real_nodes` meets its contract. Assumes nothing.
use lib.Pow.{suc_ones}
use native.Mathlib.Omega.{arith}
use Prim.Native.Nat.{◌*◌, ◌-◌}
use Rattle.meaning.proofs.Lists.Masks.{weight_made}
use Rattle.alive.proofs.Blocks.{all_real, some_real}
use Rattle.alive.proofs.real_nodes.Goals as goal

pub returns-then-count-ge-WORD_BITS : goal.returns-then-count-ge-WORD_BITS
returns-then-count-ge-WORD_BITS c = all_real c.if-count-ge-WORD_BITS.true

pub overflow_sub-result : goal.overflow_sub-result
overflow_sub-result c = let w = weight_made 64 (c.args.nodes - c.args.block * 64) (omega arith) in
    let p = suc_ones (c.args.nodes - c.args.block * 64) in
    omega arith

pub returns : goal.returns
returns c = some_real _ c.requires (weight_made 64 (c.args.nodes - c.args.block * 64) (omega arith))
