use Rattle.std.proofs.Common.{◌≡◌, ◌/◌, ◌≤◌, length}
use Rattle.meaning.specs.Limits.{set_words}
use Rattle.node_list.proofs.SetList.{Listing}
use Rattle.node_list.proofs.node_sets.Given as goal

abbrev pub invariant-loop-w : goal.invariant-loop-w
invariant-loop-w l = (l.w ≤ set_words / 2) × (length l.sets ≡ length l.initial.sets) × Listing l.flags l.w l.sets l.count
