use Rattle.resolve.proofs.Filling.{Filled}
use Rattle.resolve.proofs.resolve.Given as goal

abbrev pub invariant-loop-i : goal.invariant-loop-i
invariant-loop-i l = Filled l.pack l.query l.tree l.nodes l.count l.initial.wanted l.wanted l.i
