-- `Cursor::shape` meets its contract. Assumes nothing.
use Rattle.pack.specs.Records.{shape}
use Rattle.pack.proofs.Reading.{then_not, then_bad, shape_got}
use Rattle.pack.proofs.cursor.Cursor.shape.Goals as goal

pub returns-in_err-owner : goal.returns-in_err-owner
unfolding shape
returns-in_err-owner c = rw c.from_residual.ensures (then_not _ c.in_err-owner.ensures)

pub returns-in_err-predicate : goal.returns-in_err-predicate
unfolding shape
returns-in_err-predicate c = rw c.from_residual-in_err-predicate.ensures (then_bad _ c.in_ok-owner.ensures (then_not _ c.in_err-predicate.ensures))

pub returns-in_err-target : goal.returns-in_err-target
unfolding shape
returns-in_err-target c = rw c.from_residual-in_err-target.ensures
    (then_bad _ c.in_ok-owner.ensures (then_bad _ c.in_ok-predicate.ensures (then_not _ c.in_err-target.ensures)))

pub returns-in_err-multiplicity : goal.returns-in_err-multiplicity
unfolding shape
returns-in_err-multiplicity c = rw c.from_residual-in_err-multiplicity.ensures
    (then_bad _ c.in_ok-owner.ensures
    (then_bad _ c.in_ok-predicate.ensures (then_bad _ c.in_ok-target.ensures (then_not _ c.in_err-multiplicity.ensures))))

pub returns : goal.returns
returns c = shape_got c.in_ok-owner.ensures c.in_ok-predicate.ensures
    c.in_ok-target.ensures c.in_ok-multiplicity.ensures
