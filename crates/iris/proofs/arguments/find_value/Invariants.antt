use Rattle.iris.proofs.Segments.{Finding}
use Rattle.iris.proofs.arguments.find_value.Given as goal

abbrev pub invariant-loop-v : goal.invariant-loop-v
invariant-loop-v l = Finding l.pack l.part l.v
