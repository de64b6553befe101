-- `Cursor::object` meets its contract. Assumes nothing.
use Rattle.pack.proofs.RuleReading.{object_none, object_not, object_not_term, object_out, object_term, object_variable}
use Rattle.pack.proofs.cursor.Cursor.object.Goals as goal

pub returns-in-Type : goal.returns-in-Type
returns-in-Type c = rw c.in-Type.is (λ t l. object_none t l)

pub returns-in_err-term-in-Link : goal.returns-in_err-term-in-Link
returns-in_err-term-in-Link c = rw (c.in-Link.is, c.from_residual.ensures) (λ t l. object_not_term t l c.in_err-term-in-Link.ensures)

pub returns-in_ok-term-in-Link : goal.returns-in_ok-term-in-Link
returns-in_ok-term-in-Link c = rw c.in-Link.is (λ t l. object_term t l c.in_ok-term-in-Link.ensures)

pub returns-in_err-number-in-Value : goal.returns-in_err-number-in-Value
returns-in_err-number-in-Value c = rw (c.in-Value.is, c.from_residual-in_err-number-in-Value.ensures) (λ t l. object_not t l c.in_err-number-in-Value.ensures)

pub returns-then-number-ge-MAX_VARIABLES : goal.returns-then-number-ge-MAX_VARIABLES
returns-then-number-ge-MAX_VARIABLES c = rw c.in-Value.is (λ t l. object_out t l c.in_ok-number-in-Value.ensures c.if-number-ge-MAX_VARIABLES.true)

pub returns-else-number-ge-MAX_VARIABLES : goal.returns-else-number-ge-MAX_VARIABLES
returns-else-number-ge-MAX_VARIABLES c = rw c.in-Value.is (λ t l. object_variable t l c.in_ok-number-in-Value.ensures c.if-number-ge-MAX_VARIABLES.false)
