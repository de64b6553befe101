use Rattle.std.proofs.Common.{◌≡◌, length}
use Rattle.node_list.proofs.SetList.{Numbering}
use Rattle.node_list.proofs.list_sets.Given as goal

abbrev pub invariant-loop-i : goal.invariant-loop-i
invariant-loop-i l = (length l.places ≡ length l.initial.places) × Numbering l.sets l.first l.i l.initial.out l.places l.out
