-- `backward::mark_subjects` meets its contract. Assumes nothing.
use native.Mathlib.Omega.{arith}
use Rattle.index.proofs.Stands.{stands_first}
use Rattle.backward.proofs.Backward.{follow_again, follow_done, follow_start}
use Rattle.backward.proofs.mark_subjects.Goals as goal

pub loop-j-init : goal.loop-j-init
loop-j-init c = follow_start c.requires.1.1

pub offset_bounds-into-j : goal.offset_bounds-into-j
offset_bounds-into-j c = let g = c.requires.0.inside in omega arith

pub bounds-into-j : goal.bounds-into-j
bounds-into-j c = let g = c.requires.0.inside in let t = c.loop-j-test.true in omega arith

pub mark_subject-requires : goal.mark_subject-requires
mark_subject-requires c = (c.requires.0.nodes _ (stands_first c.loop-j.invariant.from c.loop-j-test.true), (c.requires.1.0, c.loop-j.invariant.adds.after))

pub loop-j-preserved : goal.loop-j-preserved
loop-j-preserved c = follow_again c.loop-j.invariant c.loop-j-test.true c.mark_subject.ensures

pub returns : goal.returns
returns c = follow_done c.loop-j.invariant (omega arith)
