-- `backward::turned` meets its contract. Assumes nothing.
use lib.ListN.{get_or}
use mathlib.Core.Path.{sym, ◌∙◌}
use native.Mathlib.Omega.{arith}
use Rattle.states.proofs.PartKinds.{some_before}
use Rattle.backward.proofs.Backward.{turned_sequence, turned_star, turned_test, turned_union}
use Rattle.backward.proofs.turned.Goals as goal

pub first_number-requires : goal.first_number-requires
first_number-requires c = c.requires.0.0.in_tree

pub returns-then-kind-eq-SEQUENCE : goal.returns-then-kind-eq-SEQUENCE
returns-then-kind-eq-SEQUENCE c = turned_sequence c.args.lists.now.tree.now c.args.board.now.marked.now c.args.i c.args.block (get_or c.args.lists.now.next.now c.args.i 0)
    (sym c.requires.0.1.0 ∙ c.if-kind-eq-SEQUENCE.true) _ c.first_number.ensures

pub overflow_sub-result : goal.overflow_sub-result
overflow_sub-result c = let k = c.requires.0.1 in
    let s = some_before c.requires.0.0 (omega arith) in
    omega arith

pub returns-then-kind-ge-SEQUENCE : goal.returns-then-kind-ge-SEQUENCE
returns-then-kind-ge-SEQUENCE c = let k = c.requires.0.1.0 in
    let h = c.requires.0.0.kind in
    turned_union c.args.lists.now.tree.now c.args.board.now.marked.now c.args.i c.args.block (get_or c.args.lists.now.next.now c.args.i 0) (omega arith) _
    c.first_number.ensures

pub overflow_sub-body : goal.overflow_sub-body
overflow_sub-body c = let k = c.requires.0.1 in
    let s = some_before c.requires.0.0 (omega arith) in
    omega arith

pub returns-then-kind-eq-NESTED : goal.returns-then-kind-eq-NESTED
returns-then-kind-eq-NESTED c = turned_test c.args.lists.now.tree.now c.args.board.now.marked.now c.args.i c.args.block (get_or c.args.lists.now.next.now c.args.i 0)
    (sym c.requires.0.1.0 ∙ c.if-kind-eq-NESTED.true)

pub returns : goal.returns
returns c = let k = c.requires.0.1 in
    turned_star c.args.lists.now.tree.now c.args.board.now.marked.now c.args.i c.args.block (get_or c.args.lists.now.next.now c.args.i 0) (omega arith)
