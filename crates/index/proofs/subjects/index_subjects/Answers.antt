-- `index::subjects::index_subjects` meets its contract. Assumes nothing.
use native.Mathlib.Omega.{arith}
use Rattle.index.proofs.BySubject.{index_again, range_is}
use Rattle.index.proofs.subjects.index_subjects.Goals as goal

pub overflow_cast-index : goal.overflow_cast-index
overflow_cast-index c = let a = c.loop-n.invariant.1.passed.inside in
    let b = c.requires.0.few_edges in
    let f = c.first_of.ensures.0 in
    omega arith

pub loop-n-preserved : goal.loop-n-preserved
loop-n-preserved c = let e = c.subject_end-end.ensures in
    let i = c.loop-n.invariant.1 in
    let l = c.loop-n-test.true in
    let p = c.requires.2 in
    let f = c.first_of.ensures in
    (omega arith, index_again i (omega arith) _ _ _ e.1 (range_is i.passed e.1 _ e.0 f.1 f.2))
