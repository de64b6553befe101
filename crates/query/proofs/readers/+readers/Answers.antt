-- The cycle of calls {read_union, read_sequence, read_step, read_atom} meets its contracts. Assumes nothing.
use lib.Dec.{lit<}
use lib.ListN.{length-drop, drop}
use mathlib.Core.Path.{refl, sym, ◌∙◌}
use native.Mathlib.Omega.{arith}
use Rattle.meaning.specs.Query.{nested}
use Rattle.query.specs.Reading.{class}
use Rattle.query.specs.Tree.{h_sequence, h_union}
use Rattle.grammar.proofs.Bytes.{get_d_within, run_le}
use borrow.Author.Tests.{eqb-true, eqb-false}
use Rattle.query.proofs.PartLaws.{
  since,
  union_refused,
  union_start,
  sequence_refused,
  sequence_start,
  partly_refused,
  partly_more,
  partly_done,
  step_refused,
  step_read,
  no_round,
  no_square,
  stay_read,
  leaf_read,
  inside_refused,
  not_closed,
  group_read,
  test_read,
  atom_round,
  atom_square,
}
use Rattle.query.proofs.readers.+readers.Goals as goal

-- read_union

pub read_union-returns-in_err-end : goal.read_union-returns-in_err-end
read_union-returns-in_err-end t c = rw c.from_residual.ensures (union_refused c.args.left c.in_err-end.ensures)

pub read_union-loop-tree-init : goal.read_union-loop-tree-init
read_union-loop-tree-init t c = union_start c.args.left c.in_ok-end.ensures

pub read_union-returns-in_err-past : goal.read_union-returns-in_err-past
read_union-returns-in_err-past t c = rw c.from_residual-in_err-past.ensures (since c.in_ok-end.ensures.kept
    (partly_refused c.loop-tree.invariant (lit< tt) (eqb-true _ _ (sym c.is_at.ensures ∙ c.loop-tree-test.true)) c.in_err-past.ensures))

pub read_union-loop-tree-preserved : goal.read_union-loop-tree-preserved
read_union-loop-tree-preserved t c =
    let p = c.loop-tree.invariant in
    let mv = p.moved in
    let pf = p.few in
    let ps = p.some in
    let w = get_d_within c.args.q.now c.loop-tree.end 124 (eqb-true _ _ (sym c.is_at.ensures ∙ c.loop-tree-test.true)) (lit< tt) in
    let b = c.in_ok-past.ensures.tells in
    let l = c.read_sequence-in-loop-tree.auto.tree in
    partly_more p (lit< tt) (eqb-true _ _ (sym c.is_at.ensures ∙ c.loop-tree-test.true)) c.in_ok-past.ensures 8 c.pack.ensures (omega arith)
    (λ t a b x y z. h_union x y z)

pub read_union-returns : goal.read_union-returns
read_union-returns t c = since c.in_ok-end.ensures.kept (partly_done c.loop-tree.invariant (eqb-false _ _ (sym c.is_at.ensures ∙ c.loop-tree-test.false)))

-- read_sequence

pub read_sequence-returns-in_err-end : goal.read_sequence-returns-in_err-end
read_sequence-returns-in_err-end t c = rw c.from_residual.ensures (sequence_refused c.args.left c.in_err-end.ensures)

pub read_sequence-loop-tree-init : goal.read_sequence-loop-tree-init
read_sequence-loop-tree-init t c = sequence_start c.args.left c.in_ok-end.ensures

pub read_sequence-returns-in_err-past : goal.read_sequence-returns-in_err-past
read_sequence-returns-in_err-past t c = rw c.from_residual-in_err-past.ensures (since c.in_ok-end.ensures.kept
    (partly_refused c.loop-tree.invariant (lit< tt) (eqb-true _ _ (sym c.is_at.ensures ∙ c.loop-tree-test.true)) c.in_err-past.ensures))

pub read_sequence-loop-tree-preserved : goal.read_sequence-loop-tree-preserved
read_sequence-loop-tree-preserved t c =
    let p = c.loop-tree.invariant in
    let mv = p.moved in
    let pf = p.few in
    let ps = p.some in
    let w = get_d_within c.args.q.now c.loop-tree.end 47 (eqb-true _ _ (sym c.is_at.ensures ∙ c.loop-tree-test.true)) (lit< tt) in
    let b = c.in_ok-past.ensures.tells in
    let l = c.read_step-in-loop-tree.auto.tree in
    partly_more p (lit< tt) (eqb-true _ _ (sym c.is_at.ensures ∙ c.loop-tree-test.true)) c.in_ok-past.ensures 7 c.pack.ensures (omega arith)
    (λ t a b x y z. h_sequence x y z)

pub read_sequence-returns : goal.read_sequence-returns
read_sequence-returns t c = since c.in_ok-end.ensures.kept (partly_done c.loop-tree.invariant (eqb-false _ _ (sym c.is_at.ensures ∙ c.loop-tree-test.false)))

-- read_step

pub read_step-returns-in_err-end : goal.read_step-returns-in_err-end
read_step-returns-in_err-end t c = rw c.from_residual.ensures (step_refused c.args.left c.in_err-end.ensures)

pub read_step-put_stars-requires : goal.read_step-put_stars-requires
read_step-put_stars-requires t c =
    let b = c.in_ok-end.ensures.tells in
    let rl = run_le (class 6) (drop c.in_ok-end.end c.args.q.now) in
    let dl = length-drop c.in_ok-end.end c.args.q.now in
    let s = c.read_atom.auto.tree in
    omega arith

pub read_step-returns : goal.read_step-returns
read_step-returns t c = step_read c.args.left c.in_ok-end.ensures c.run_end-past.result c.run_end-past.ensures c.put_stars.new.tree c.put_stars.ensures

-- read_atom

pub read_atom-returns-then-left-eq0 : goal.read_atom-returns-then-left-eq0
read_atom-returns-then-left-eq0 t c = no_round c.args.left (eqb-true _ _ (sym c.is_at.ensures ∙ c.if-is_at.true)) c.if-left-eq0.true

pub read_atom-returns-then-is_at-2 : goal.read_atom-returns-then-is_at-2
read_atom-returns-then-is_at-2 t c = stay_read c.args.left c.requires (eqb-true _ _ (sym c.is_at.ensures ∙ c.if-is_at.true)) c.if-left-eq0.false
    (eqb-true _ _ (sym c.is_at-then-is_at.ensures ∙ c.if-is_at-2.true)) c.pack.ensures

pub read_atom-returns-in_err-end : goal.read_atom-returns-in_err-end
read_atom-returns-in_err-end t c = rw c.from_residual.ensures (inside_refused c.args.at c.args.left (λ e. e) (lit< tt) c.if-left-eq0.false
    (λ o. atom_round c.args.q.now c.args.at c.args.left o (eqb-true _ _ (sym c.is_at.ensures ∙ c.if-is_at.true)) c.if-left-eq0.false
    (eqb-false _ _ (sym c.is_at-then-is_at.ensures ∙ c.if-is_at-2.false)))
    c.in_err-end.ensures)

pub read_atom-returns-then-not-is_at : goal.read_atom-returns-then-not-is_at
read_atom-returns-then-not-is_at t c = not_closed c.args.at c.args.left (λ e. e) (lit< tt) c.if-left-eq0.false
    (λ o. atom_round c.args.q.now c.args.at c.args.left o (eqb-true _ _ (sym c.is_at.ensures ∙ c.if-is_at.true)) c.if-left-eq0.false
    (eqb-false _ _ (sym c.is_at-then-is_at.ensures ∙ c.if-is_at-2.false)))
    c.in_ok-end.ensures (eqb-false _ _ (sym c.is_at-then-is_at-2.ensures ∙ c.if-not-is_at.true))

pub read_atom-returns-then-is_at : goal.read_atom-returns-then-is_at
read_atom-returns-then-is_at t c = group_read c.args.at c.args.left (λ e. e) (lit< tt) c.if-left-eq0.false
    (λ o. atom_round c.args.q.now c.args.at c.args.left o (eqb-true _ _ (sym c.is_at.ensures ∙ c.if-is_at.true)) c.if-left-eq0.false
    (eqb-false _ _ (sym c.is_at-then-is_at.ensures ∙ c.if-is_at-2.false)))
    c.in_ok-end.ensures (eqb-true _ _ (sym c.is_at-then-is_at-2.ensures ∙ c.if-not-is_at.false)) (λ a. refl)

pub read_atom-returns-then-left-eq0-2 : goal.read_atom-returns-then-left-eq0-2
read_atom-returns-then-left-eq0-2 t c = no_square c.args.left (eqb-true _ _ (sym c.is_at-2.ensures ∙ c.if-is_at-3.true)) c.if-left-eq0-2.true

pub read_atom-returns-in_err-end-2 : goal.read_atom-returns-in_err-end-2
read_atom-returns-in_err-end-2 t c = rw c.from_residual-in_err-end-2.ensures (inside_refused c.args.at c.args.left nested (lit< tt) c.if-left-eq0-2.false
    (λ o. atom_square c.args.q.now c.args.at c.args.left o (eqb-true _ _ (sym c.is_at-2.ensures ∙ c.if-is_at-3.true)) c.if-left-eq0-2.false)
    c.in_err-end-2.ensures)

pub read_atom-returns-then-not-is_at-2 : goal.read_atom-returns-then-not-is_at-2
read_atom-returns-then-not-is_at-2 t c = not_closed c.args.at c.args.left nested (lit< tt) c.if-left-eq0-2.false
    (λ o. atom_square c.args.q.now c.args.at c.args.left o (eqb-true _ _ (sym c.is_at-2.ensures ∙ c.if-is_at-3.true)) c.if-left-eq0-2.false)
    c.in_ok-end-2.ensures (eqb-false _ _ (sym c.is_at-then-is_at-3.ensures ∙ c.if-not-is_at-2.true))

pub read_atom-returns-then-is_at-3 : goal.read_atom-returns-then-is_at-3
read_atom-returns-then-is_at-3 t c =
    let b = c.in_ok-end-2.ensures.tells in
    let e = eqb-true _ _ (sym c.is_at-then-is_at-3.ensures ∙ c.if-not-is_at-2.false) in
    let w = get_d_within c.args.q.now c.in_ok-end-2.end 93 e (lit< tt) in
    let s = c.read_union-then-is_at-3.auto.tree in
    test_read c.args.at c.args.left nested (lit< tt) c.if-left-eq0-2.false
    (λ o. atom_square c.args.q.now c.args.at c.args.left o (eqb-true _ _ (sym c.is_at-2.ensures ∙ c.if-is_at-3.true)) c.if-left-eq0-2.false)
    c.in_ok-end-2.ensures e (λ a. refl) c.pack-then-is_at-3.result c.pack-then-is_at-3.ensures (omega arith)

pub read_atom-returns : goal.read_atom-returns
read_atom-returns t c = leaf_read c.args.left c.read_leaf.ensures (eqb-false _ _ (sym c.is_at.ensures ∙ c.if-is_at.false)) (eqb-false _ _ (sym c.is_at-2.ensures ∙ c.if-is_at-3.false))
