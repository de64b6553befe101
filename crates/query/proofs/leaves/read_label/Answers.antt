-- `query::leaves::read_label` meets its contract. Assumes nothing.
use borrow.Author.Tests.{eqb-true, eqb-false}
use mathlib.Core.Path.{sym, ◌∙◌}
use mathlib.Core.Logic.{inl, inr}
use Rattle.query.proofs.LeafLaws.{label_refused, label_stored}
use native.Mathlib.Omega.{arith}
use Rattle.query.proofs.leaves.read_label.Goals as goal
use Rattle.query.proofs.leaves.read_label.Goals.{else-kind-eq-AT_IRI, then-kind-eq-AT_IRI}

-- each kind has the closing mark that belongs to it
pub returns-then-not-is_at : goal.returns-then-not-is_at
returns-then-not-is_at c =
    let a = c.args in
    label_refused a.q.now a.tree.now a.at a.n a.kind c.if-kind-eq-AT_IRI.mark c.run_end-end.result c.run_end-end.ensures
    (elim c.if-kind-eq-AT_IRI.branch [ then-kind-eq-AT_IRI w ↦ inl (w.if-kind-eq-AT_IRI.true, w.mark-is) | else-kind-eq-AT_IRI w ↦ inr (omega arith, w.mark-is) ])
    (eqb-false _ _ (sym c.is_at.ensures ∙ c.if-not-is_at.true))

pub returns : goal.returns
returns c =
    let a = c.args in
    label_stored a.q.now a.tree.now a.at a.n a.kind c.if-kind-eq-AT_IRI.mark c.run_end-end.result c.run_end-end.ensures c.pack.result c.requires.0
    (elim c.if-kind-eq-AT_IRI.branch [ then-kind-eq-AT_IRI w ↦ inl (w.if-kind-eq-AT_IRI.true, w.mark-is) | else-kind-eq-AT_IRI w ↦ inr (omega arith, w.mark-is) ])
    (eqb-true _ _ (sym c.is_at.ensures ∙ c.if-not-is_at.false)) c.pack.ensures
