-- `matching::orders::rank` meets its contract. Assumes nothing.
use Rattle.matching.proofs.Order.{rank_new, rank_seen}
use Rattle.matching.proofs.orders.rank.Goals as goal

pub returns-then-mark-eq0 : goal.returns-then-mark-eq0
returns-then-mark-eq0 c = rank_new _ _ c.if-mark-eq0.true

pub returns : goal.returns
returns c = rank_seen _ _ c.if-mark-eq0.false
