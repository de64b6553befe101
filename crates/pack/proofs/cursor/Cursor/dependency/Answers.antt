-- `Cursor::dependency` meets its contract. Assumes nothing.
use Rattle.pack.specs.Records.{dependency}
use Rattle.pack.proofs.Reading.{then_got, then_not, then_bad, give_got}
use Rattle.pack.proofs.cursor.Cursor.dependency.Goals as goal

pub returns-in_err-relation : goal.returns-in_err-relation
unfolding dependency
returns-in_err-relation c = rw c.from_residual.ensures (then_not _ c.in_err-relation.ensures)

pub returns-in_err-left : goal.returns-in_err-left
unfolding dependency
returns-in_err-left c = rw c.from_residual-in_err-left.ensures (then_bad _ c.in_ok-relation.ensures (then_not _ c.in_err-left.ensures))

pub returns-in_err-right : goal.returns-in_err-right
unfolding dependency
returns-in_err-right c = rw c.from_residual-in_err-right.ensures
    (then_bad _ c.in_ok-relation.ensures (then_bad _ c.in_ok-left.ensures (then_not _ c.in_err-right.ensures)))

pub returns : goal.returns
unfolding dependency
returns c = then_got _ c.in_ok-relation.ensures
    (then_got _ c.in_ok-left.ensures (then_got _ c.in_ok-right.ensures give_got))
