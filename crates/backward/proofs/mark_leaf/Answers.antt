-- `backward::mark_leaf` meets its contract. Assumes nothing.
use native.Mathlib.Omega.{arith}
use Prim.Native.Nat.{◌%◌}
use Rattle.meaning.proofs.Lists.Masks.{weight_made}
use Rattle.backward.proofs.Backward.{leaf_label, leaf_none, leaf_stay, leaf_step}
use Rattle.backward.proofs.mark_leaf.Goals as goal

pub mark_word-requires : goal.mark_word-requires
mark_word-requires c = (_, omega arith, c.requires.1.1)

pub returns-then-leaf-eq-STAY : goal.returns-then-leaf-eq-STAY
returns-then-leaf-eq-STAY c = leaf_stay c.if-leaf-eq-STAY.true c.requires.1.0.1 (c.mark_word.ensures _ (omega arith) c.requires.1.1)

pub returns-then-leaf-lt-AT_IRI : goal.returns-then-leaf-lt-AT_IRI
returns-then-leaf-lt-AT_IRI c = leaf_step c.if-leaf-eq-STAY.false c.if-leaf-lt-AT_IRI.true c.mark_steps.ensures

pub mark_word-requires-then-node-block : goal.mark_word-requires-then-node-block
mark_word-requires-then-node-block c = (_, omega arith, c.requires.1.1)

pub returns-then-node-block : goal.returns-then-node-block
returns-then-node-block c = leaf_label (omega arith) c.requires.0.1 c.requires.1.0.1 c.if-node-block.true _ (weight_made 64 (c.args.leaf.want % 64) (omega arith))
    (c.mark_word-then-node-block.ensures _ (omega arith) c.requires.1.1)

pub returns-else-node-block : goal.returns-else-node-block
returns-else-node-block c = leaf_none (omega arith) c.if-node-block.false c.requires.1.1
