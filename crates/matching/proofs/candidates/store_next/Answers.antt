-- `matching::candidates::store_next` meets its contract. Assumes nothing.
use Rattle.matching.proofs.Collect.{stored_before}
use Rattle.matching.proofs.candidates.store_next.Goals as goal

pub returns-then-key-last : goal.returns-then-key-last
returns-then-key-last c = stored_before c.args.set.now.ascending (rw c.if-key-last.true (c.requires.1 c.if-set-gt0.true))
