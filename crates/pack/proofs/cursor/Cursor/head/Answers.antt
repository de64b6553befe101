-- `Cursor::head` meets its contract. Assumes nothing.
use Rattle.pack.proofs.RuleReading.{head_got, head_no_object, head_not, head_unlabelled}
use Rattle.pack.proofs.cursor.Cursor.head.Goals as goal

pub returns-in_err-subject : goal.returns-in_err-subject
returns-in_err-subject c = rw c.from_residual.ensures (head_not _ c.in_err-subject.ensures)

pub returns-in_err-label : goal.returns-in_err-label
returns-in_err-label c = rw c.from_residual-in_err-label.ensures (head_unlabelled _ c.in_ok-subject.ensures c.in_err-label.ensures)

pub returns-in_err-object : goal.returns-in_err-object
returns-in_err-object c = rw c.from_residual-in_err-object.ensures (head_no_object _ c.in_ok-subject.ensures c.in_ok-label.ensures (c.in_err-object.ensures _ _))

pub returns : goal.returns
returns c = head_got _ c.in_ok-subject.ensures c.in_ok-label.ensures (c.in_ok-object.ensures _ _)
