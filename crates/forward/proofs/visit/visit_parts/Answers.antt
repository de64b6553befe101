-- `forward::visit::visit_parts` meets its contract. Assumes nothing.
use native.Mathlib.Omega.{arith}
use mathlib.Core.Path.{sym, ◌∙◌, ap}
use Rattle.forward.proofs.Forward.{part_sequence, part_star, part_test, part_union, word_at_lem}
use Rattle.forward.proofs.SeenNumbers.{word_number, word_room}
use Rattle.forward.specs.Seen.{seen_word}
use Rattle.states.proofs.Numbers.{word_index}
use Rattle.states.proofs.PartKinds.{some_before}
use Rattle.forward.proofs.visit.visit_parts.Goals as goal

pub overflow_sub-body : goal.overflow_sub-body
overflow_sub-body c = let a = some_before c.requires.0.0 c.requires.0.1 in
    omega arith

pub overflow_sub-held : goal.overflow_sub-held
overflow_sub-held c = let a = some_before c.requires.0.0
    c.requires.0.1 in
    omega arith

pub returns-then-kind-eq-NESTED : goal.returns-then-kind-eq-NESTED
returns-then-kind-eq-NESTED c = part_test c.args.lists.now.tree.now c.args.alive.now c.args.i _ c.args.block c.args.bits c.requires.1.0
    (sym c.kind_of-kind.ensures ∙ c.if-kind-eq-NESTED.true) _ (word_index c.args.alive.now _ c.args.block)
    (word_at_lem _ c.requires.1.0 (word_number _ c.args.block)
    (c.mark_word.ensures _ (word_room _ c.args.block c.requires.0.0.onward c.requires.1.0) c.requires.2))

pub returns-then-kind-eq-STAR : goal.returns-then-kind-eq-STAR
returns-then-kind-eq-STAR c =
    let d = c.mark_word-then-kind-eq-STAR.ensures _ (word_room _ c.args.block c.requires.0.0.onward c.requires.1.0) c.requires.2 in
    part_star c.args.lists.now.tree.now c.args.alive.now c.args.i _ c.args.block c.args.bits
    (sym c.kind_of-kind.ensures ∙ c.if-kind-eq-STAR.true) (word_at_lem _ c.requires.1.0 (word_number _ c.args.block) d)
    (word_at_lem _ c.requires.1.0 (word_number _ c.args.block)
    (c.mark_word-then-kind-eq-STAR-2.ensures _ (word_room _ c.args.block (let a = c.requires.0.0.short in omega arith) c.requires.1.0) d.after))

pub returns-then-kind-ne-SEQUENCE : goal.returns-then-kind-ne-SEQUENCE
returns-then-kind-ne-SEQUENCE c =
    let d = c.mark_word-2.ensures _ (word_room _ c.args.block (let a = c.first_number.ensures in omega arith) c.requires.1.0) c.requires.2 in
    let k = c.kind_of-kind.ensures in
    let h = c.requires.0.0.kind in
    let g = c.requires.0.1 in
    part_union c.args.lists.now.tree.now c.args.alive.now c.args.i _ c.args.block c.args.bits
    (omega (arith, c.if-kind-eq-NESTED.false, c.if-kind-eq-STAR.false, c.if-kind-ne-SEQUENCE.true))
    (word_at_lem _ c.requires.1.0 (word_number _ c.args.block ∙ ap (λ x. seen_word x c.args.block) c.first_number.ensures) d)
    (word_at_lem _ c.requires.1.0 (word_number _ c.args.block)
    (c.mark_word-then-kind-ne-SEQUENCE.ensures _ (word_room _ c.args.block (let a = c.requires.0.0.short in omega arith) c.requires.1.0) d.after))

pub returns-else-kind-ne-SEQUENCE : goal.returns-else-kind-ne-SEQUENCE
returns-else-kind-ne-SEQUENCE c = part_sequence c.args.lists.now.tree.now c.args.alive.now c.args.i _ c.args.block c.args.bits
    (sym c.kind_of-kind.ensures ∙ c.if-kind-ne-SEQUENCE.false)
    (word_at_lem _ c.requires.1.0 (word_number _ c.args.block ∙ ap (λ x. seen_word x c.args.block) c.first_number.ensures)
    (c.mark_word-2.ensures _ (word_room _ c.args.block (let a = c.first_number.ensures in omega arith) c.requires.1.0)
    c.requires.2))
