use Rattle.core_graph.proofs.Loops.{KeysDone}
use Rattle.sets.specs.OrderedSet.{set_of}
use Rattle.meaning.specs.Member.{◌∈◌}
use Rattle.core_graph.proofs.counted.add_rule.Given as goal

abbrev pub invariant-loop-k : goal.invariant-loop-k
invariant-loop-k g l = KeysDone (λ k y. y ∈ g.G.Gives.gives l.of l.head k) l.keys l.k-index (set_of l.initial.set) (set_of l.set)
