use Rattle.matching.proofs.Order.{Ranking}
use Rattle.sets.specs.OrderedSet.{Same, set_of}
use Rattle.matching.proofs.orders.ranks.Given as goal

abbrev pub invariant-loop-v : goal.invariant-loop-v
invariant-loop-v l = Ranking l.own l.seen l.initial.set.keys.now l.v-index l.set.count l.set.keys.now × Same (set_of l.initial.set) (set_of l.set)
