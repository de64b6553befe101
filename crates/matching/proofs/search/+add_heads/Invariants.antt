use Prim.Native.Nat.{◌-◌}
use Rattle.matching.proofs.Rows.{Turn}
use Rattle.sets.specs.OrderedSet.{Same, set_of}
use Rattle.matching.proofs.search.+add_heads.Given as goal

abbrev pub decreases-add_heads : goal.decreases-add_heads
decreases-add_heads l = l.atom_count - l.at

abbrev pub invariant-loop-r : goal.invariant-loop-r
invariant-loop-r l = Turn l.atoms l.atom_count l.vars l.cands l.counts l.at l.env l.initial.set.keys.now l.initial.set.count l.initial.r-iterator.start l.initial.r-iterator.end l.r-iterator l.set.count l.set.keys.now
    × Same (set_of l.initial.set) (set_of l.set)
