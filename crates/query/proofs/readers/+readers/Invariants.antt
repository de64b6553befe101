-- The measure is four times the bytes left, and the level: a union calls a sequence, a sequence a step, a step an atom at
-- the same byte or a later one, and an atom a union at a later one.
use lib.ListN.{length}
use Prim.Native.Nat.{◌+◌, ◌-◌, ◌*◌}
use Rattle.query.proofs.PartLaws.{Sequences, Steps}
use Rattle.query.proofs.readers.+readers.Given as goal

abbrev pub decreases-read_atom : goal.decreases-read_atom
decreases-read_atom l = 4 * (length l.q.now - l.at) + 1

abbrev pub decreases-read_sequence : goal.decreases-read_sequence
decreases-read_sequence l = 4 * (length l.q.now - l.at) + 3

abbrev pub decreases-read_step : goal.decreases-read_step
decreases-read_step l = 4 * (length l.q.now - l.at) + 2

abbrev pub decreases-read_union : goal.decreases-read_union
decreases-read_union l = 4 * (length l.q.now - l.at) + 4

abbrev pub invariant-read_sequence-loop-tree : goal.invariant-read_sequence-loop-tree
invariant-read_sequence-loop-tree l = Steps l.q l.initial.tree l.tree l.at l.n l.left l.end l.m

abbrev pub decreases-read_sequence-loop-tree : goal.decreases-read_sequence-loop-tree
decreases-read_sequence-loop-tree l = length l.q - l.end

abbrev pub invariant-read_union-loop-tree : goal.invariant-read_union-loop-tree
invariant-read_union-loop-tree l = Sequences l.q l.initial.tree l.tree l.at l.n l.left l.end l.m

abbrev pub decreases-read_union-loop-tree : goal.decreases-read_union-loop-tree
decreases-read_union-loop-tree l = length l.q - l.end
