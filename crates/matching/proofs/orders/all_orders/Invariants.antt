use lib.ListN.{length}
use mathlib.Core.Path.{◌≡◌}
use Rattle.matching.proofs.Order.{Ordering}
use Rattle.matching.proofs.orders.all_orders.Given as goal

abbrev pub invariant-loop-j : goal.invariant-loop-j
invariant-loop-j l = (length l.out ≡ length l.initial.out) × Ordering l.atoms l.count l.j l.orders
