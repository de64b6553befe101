-- `rounds::count::from_rows` is safe. Assumes nothing.
use Rattle.std.proofs.Common.{arith}
use Rattle.construct.proofs.FromRows.{heads_of}
use Rattle.rounds.proofs.count.from_rows.Goals as goal

pub from_heads-requires : goal.from_heads-requires
from_heads-requires c =
    let g = c.requires in (
      record { pack = g.pack; is = heads_of g.is (c.in-Ok.ensures g.pack g.is) },
      omega (arith, c.all_heads.auto.heads),
    )
