-- `query::leaves::read_leaf` meets its contract: it passes on what the byte chooses. Assumes nothing.
use borrow.Author.Tests.{eqb-true, eqb-false}
use mathlib.Core.Path.{sym, ◌∙◌}
use Prim.Native.Nat.{◌+◌}
use native.Mathlib.Omega.{arith}
use lib.Dec.{lit<}
use lib.ListN.{drop}
use Rattle.grammar.proofs.Bytes.{get_d_within}
use Rattle.grammar.specs.Parse.{leaf, name}
use Rattle.meaning.specs.Query.{any_step}
use Rattle.query.specs.Reading.{labelled}
use Rattle.query.specs.Tree.{h_any}
use Rattle.query.proofs.LeafLaws.{reread, store, leaf_iri, leaf_literal, leaf_any, leaf_name}
use Rattle.query.proofs.leaves.read_leaf.Goals as goal

pub returns-then-is_at : goal.returns-then-is_at
returns-then-is_at c =
    let a = c.args in
    let r = c.read_label in
    reread a.q.now a.tree.now r.new.tree a.at (a.at + 1) a.n r.result (labelled 3 (drop (a.at + 1) a.q.now))
    (leaf (drop a.at a.q.now)) r.ensures (omega arith) (leaf_iri a.q.now a.at (eqb-true _ _ (sym c.is_at.ensures ∙ c.if-is_at.true)))

pub returns-then-is_at-2 : goal.returns-then-is_at-2
returns-then-is_at-2 c =
    let a = c.args in
    let r = c.read_label-then-is_at-2 in
    reread a.q.now a.tree.now r.new.tree a.at (a.at + 1) a.n r.result (labelled 4 (drop (a.at + 1) a.q.now))
    (leaf (drop a.at a.q.now)) r.ensures (omega arith) (leaf_literal a.q.now a.at (eqb-true _ _ (sym c.is_at-2.ensures ∙ c.if-is_at-2.true)))

pub returns-then-is_at-3 : goal.returns-then-is_at-3
returns-then-is_at-3 c =
    let a = c.args in
    let e = eqb-true _ _ (sym c.is_at-3.ensures ∙ c.if-is_at-3.true) in
    let h = get_d_within a.q.now a.at 95 e (lit< tt) in
    store a.q.now a.tree.now a.at a.n (a.at + 1) c.pack.result (leaf (drop a.at a.q.now)) any_step (omega arith) (omega arith) (omega arith)
    (leaf_any a.q.now a.at e) (λ w. h_any (w ∙ c.pack.ensures))

pub returns : goal.returns
returns c =
    let a = c.args in
    let r = c.read_name in
    reread a.q.now a.tree.now r.new.tree a.at a.at a.n r.result (name (drop a.at a.q.now))
    (leaf (drop a.at a.q.now)) r.ensures (omega arith)
    (leaf_name a.q.now a.at (eqb-false _ _ (sym c.is_at.ensures ∙ c.if-is_at.false)) (eqb-false _ _ (sym c.is_at-2.ensures ∙ c.if-is_at-2.false))
    (eqb-false _ _ (sym c.is_at-3.ensures ∙ c.if-is_at-3.false)))
