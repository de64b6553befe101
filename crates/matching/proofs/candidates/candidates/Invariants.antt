use lib.ListN.{length}
use Prim.Native.Nat.{◌-◌, ◌/◌}
use Rattle.matching.proofs.Cells.{Cells}
use Rattle.matching.proofs.Collect.{Collected}
use Rattle.meaning.specs.Limits.{row_width}
use Rattle.sets.specs.OrderedSet.{Same, set_of}
use Rattle.matching.proofs.candidates.candidates.Given as goal

abbrev pub invariant-loop-c : goal.invariant-loop-c
invariant-loop-c l = Cells l.rows l.at l.firsts l.c

abbrev pub invariant-rows : goal.invariant-rows
invariant-rows l = Collected l.rows l.relation l.own l.order l.start l.initial.set.keys.now l.r l.set.count l.last l.set.keys.now × Same (set_of l.initial.set) (set_of l.set)

abbrev pub decreases-rows : goal.decreases-rows
decreases-rows l = length l.rows / row_width - l.r
