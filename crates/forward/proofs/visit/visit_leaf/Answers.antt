-- `forward::visit::visit_leaf` meets its contract. Assumes nothing.
use native.Mathlib.Omega.{arith}
use Rattle.meaning.proofs.Lists.Masks.{weight_made}
use Rattle.forward.proofs.Forward.{leaf_label, leaf_stay, word_at_lem}
use Rattle.forward.proofs.SeenNumbers.{word_number, word_room}
use Rattle.forward.proofs.visit.visit_leaf.Goals as goal

pub returns-then-leaf-eq-STAY : goal.returns-then-leaf-eq-STAY
returns-then-leaf-eq-STAY c = leaf_stay c.if-leaf-eq-STAY.true (word_at_lem _ c.requires.0.0 (word_number _ c.args.block)
    (c.mark_word.ensures _ (word_room _ c.args.block c.requires.2 c.requires.0.0) c.requires.3))

pub returns-then-leaf-block : goal.returns-then-leaf-block
returns-then-leaf-block c = leaf_label (omega (arith, c.if-leaf-lt-AT_IRI.false)) c.requires.1 c.if-leaf-block.true _ (weight_made 64 _ (omega arith))
    (word_at_lem _ c.requires.0.0 (word_number _ c.args.block)
    (c.mark_word-then-leaf-block.ensures _ (word_room _ c.args.block c.requires.2 c.requires.0.0) c.requires.3))
