use Rattle.depends.proofs.DependencyLoop.{Asking}
use Rattle.depends.proofs.some_broken.Given as goal

abbrev pub invariant-loop-i : goal.invariant-loop-i
invariant-loop-i l = Asking l.dependencies l.rows l.lefts l.rights l.count l.i
