-- `Cursor::tuple` meets its contract: it is `tuple_within`, by another name for the bound. Assumes nothing.
use Rattle.pack.proofs.cursor.Cursor.tuple.Goals as goal

pub returns-in_err-number : goal.returns-in_err-number
returns-in_err-number g c = rw c.from_residual.ensures c.in_err-number.ensures.reads

pub invariant_of-result : goal.invariant_of-result
invariant_of-result g c = record { few = c.in_ok-number.ensures.few }

pub returns : goal.returns
returns g c = c.in_ok-number.ensures.reads
