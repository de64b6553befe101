use lib.ListN.{get_or}
use mathlib.Core.Path.{◌≡◌}
use Rattle.spread.specs.Keys.{origin_at}
use Rattle.invent.specs.Invent.{Marks, NodeLacks, OfTable, Upto}
use Rattle.core_lists.specs.Origin.{keys_before}
use Rattle.worklist.specs.Table.{board_of}
use Rattle.invent.proofs.seed.Given as goal

abbrev pub invariant-loop-s : goal.invariant-loop-s
invariant-loop-s l = (l.at ≡ keys_before (origin_at l.s 0) l.core.triples.now)
    × Marks (OfTable l.demands) (λ P. Upto (λ i. NodeLacks l.core.triples.now i (get_or l.core.masks.now i 0) P) l.s) (board_of l.initial.board) (board_of l.board)
