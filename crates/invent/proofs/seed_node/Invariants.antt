use mathlib.Core.Path.{◌≡◌}
use Rattle.spread.specs.Keys.{origin_at}
use Rattle.invent.specs.Invent.{Lacks, Marks, OfTable, Upto}
use Rattle.core_lists.specs.Origin.{keys_before}
use Rattle.worklist.specs.Table.{board_of}
use Rattle.invent.proofs.seed_node.Given as goal

abbrev pub invariant-loop-p : goal.invariant-loop-p
invariant-loop-p l = (l.at ≡ keys_before (origin_at l.subject l.p) l.core.triples.now)
    × Marks (OfTable l.demands) (λ P. Upto (Lacks P l.core.triples.now l.subject l.mask) l.p) (board_of l.initial.board) (board_of l.board)
