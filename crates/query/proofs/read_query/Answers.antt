-- `query::read_query` meets its contract. Assumes nothing.
use Rattle.query.proofs.WholeText.{no_query, left_over, a_query}
use Rattle.query.proofs.read_query.Goals as goal

pub returns-in_err-at : goal.returns-in_err-at
returns-in_err-at c = rw c.from_residual.ensures (no_query c.in_err-at.ensures)

pub returns-then-at-q : goal.returns-then-at-q
returns-then-at-q c = left_over c.in_ok-at.ensures c.if-at-q.true

pub returns : goal.returns
returns c = a_query c.in_ok-at.ensures c.if-at-q.false c.if-q-gt-MAX_QUERY_BYTES.false
