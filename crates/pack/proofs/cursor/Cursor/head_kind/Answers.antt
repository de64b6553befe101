-- `Cursor::head_kind` meets its contract. Assumes nothing.
use Rattle.pack.proofs.Reading.{byte_in_not}
use Rattle.pack.proofs.RuleReading.{kind_got, kind_out}
use Rattle.pack.proofs.cursor.Cursor.head_kind.Goals as goal

pub returns-in_err-number : goal.returns-in_err-number
returns-in_err-number c = rw c.from_residual.ensures (byte_in_not _ _ c.in_err-number.ensures)

pub returns-in_err-kind : goal.returns-in_err-kind
returns-in_err-kind c = rw c.from_residual-in_err-kind.ensures (kind_out c.in_ok-number.ensures c.in_err-kind.ensures)

pub returns : goal.returns
returns c = kind_got c.in_ok-number.ensures _ c.in_ok-kind.ensures
