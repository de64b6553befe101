use Rattle.records.proofs.Putting.{Putting}
use Rattle.records.proofs.put.put_bytes.Given as goal

abbrev pub invariant-loop-i : goal.invariant-loop-i
invariant-loop-i l = Putting l.bytes l.at l.i l.initial.out l.out
