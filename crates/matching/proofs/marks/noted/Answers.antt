-- `matching::marks::noted` meets its contract. Assumes nothing.
use Rattle.matching.proofs.Marked.{noted_first, noted_again}
use Rattle.matching.proofs.marks.noted.Goals as goal

pub returns-then-x-eq0 : goal.returns-then-x-eq0
returns-then-x-eq0 c = noted_first _ c.if-x-eq0.true

pub returns : goal.returns
returns c = noted_again _ c.if-x-eq0.false
