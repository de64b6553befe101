-- `spread::turn` meets its contract. Assumes nothing.
use Rattle.spread.proofs.turn.Goals as goal

pub returns : goal.returns
returns c = rw c.if-back.false
