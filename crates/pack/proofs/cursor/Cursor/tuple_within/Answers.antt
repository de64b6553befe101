-- `Cursor::tuple_within` meets its contract. Assumes nothing.
use native.Mathlib.Omega.{arith}
use Rattle.pack.specs.Shown.{pair}
use Rattle.pack.proofs.Reading.{tuple_bad, tuple_few, tuple_got, tuple_not}
use mathlib.Core.Path.{refl}
use Rattle.pack.proofs.cursor.Cursor.tuple_within.Goals as goal

pub returns-in_err-number-clause-reads : goal.returns-in_err-number-clause-reads
returns-in_err-number-clause-reads c = rw c.from_residual.ensures (tuple_not pair _ _ c.in_err-number.ensures)

pub returns-in_err-start-clause-reads : goal.returns-in_err-start-clause-reads
returns-in_err-start-clause-reads c = rw c.from_residual-in_err-start.ensures (tuple_bad pair _ _ c.in_ok-number.ensures c.in_err-start.ensures)

pub invariant_of-result : goal.invariant_of-result
invariant_of-result c = record { few = omega (arith, tuple_few _ _ c.in_ok-start.ensures, c.ranges.most.fits) }

pub returns-clause-reads : goal.returns-clause-reads
returns-clause-reads c = tuple_got pair _ _ c.in_ok-number.ensures c.in_ok-start.ensures refl

pub returns-clause-few : goal.returns-clause-few
returns-clause-few c = tuple_few _ _ c.in_ok-start.ensures
