use Rattle.std.specs.Prelude.{◌≤◌}
use Rattle.core_graph.proofs.Loops.{RulesDone}
use Rattle.sets.specs.OrderedSet.{set_of}
use Rattle.meaning.specs.Member.{◌∈◌}
use Rattle.core_graph.proofs.counted.add_all.Given as goal

abbrev pub invariant-loop-r : goal.invariant-loop-r
invariant-loop-r g l = (l.r ≤ l.heads.count)
    × RulesDone (λ head k y. y ∈ g.G.Gives.gives l.of head k) l.heads.rules.now l.heads.keys.now l.heads.counts.now l.r (set_of l.initial.set) (set_of l.set)
