-- `clash::find_clash` meets its contract: no clash among the triples that were passed. Assumes nothing.
use native.Mathlib.Omega.{arith}
use Rattle.core_lists.proofs.Places.{predicate_known, subject_masked}
use Rattle.clash.proofs.ClashLaws.{clash_before, clash_none}
use Rattle.clash.proofs.find_clash.Goals as goal

pub clashes-requires : goal.clashes-requires
clashes-requires c = let i = c.loop-i.i in
    (c.loop-i.invariant.1.from, omega arith, subject_masked c.args.core.now.fits i (omega arith), predicate_known c.args.core.now.fits i (omega arith))

pub returns-then-clashes : goal.returns-then-clashes
returns-then-clashes c = λ P I. let l = c.loop-i in clash_before I l.i l.invariant.1 (omega arith) (rw c.if-clashes.true at c.clashes.ensures)

pub returns : goal.returns
returns c = λ P I. clash_none I c.loop-i.i c.loop-i.invariant.1 (omega arith)
