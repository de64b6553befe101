-- `Cursor::constructor` meets its contract. Assumes nothing.
use Rattle.pack.specs.Records.{constructor}
use Rattle.pack.proofs.Reading.{constructor_got, then_not, then_bad}
use Rattle.pack.proofs.cursor.Cursor.constructor.Goals as goal

pub returns-in_err-arity : goal.returns-in_err-arity
unfolding constructor
returns-in_err-arity c = rw c.from_residual.ensures (then_not _ c.in_err-arity.ensures)

pub returns-in_err-prefix : goal.returns-in_err-prefix
unfolding constructor
returns-in_err-prefix c = rw c.from_residual-in_err-prefix.ensures (then_bad _ c.in_ok-arity.ensures (then_not _ c.in_err-prefix.ensures))

pub returns : goal.returns
returns c = constructor_got c.in_ok-arity.ensures c.in_ok-prefix.ensures
