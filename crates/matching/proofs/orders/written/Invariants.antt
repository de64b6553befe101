use Rattle.matching.proofs.Order.{Writing}
use Rattle.matching.proofs.orders.written.Given as goal

abbrev pub invariant-loop-i : goal.invariant-loop-i
invariant-loop-i l = Writing l.j l.set l.initial.next l.i l.next
