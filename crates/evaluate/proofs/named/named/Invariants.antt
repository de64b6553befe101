use Rattle.evaluate.proofs.Searching.{Passed}
use Rattle.evaluate.proofs.named.named.Given as goal

abbrev pub invariant-loop-n : goal.invariant-loop-n
invariant-loop-n l = Passed l.nodes l.count l.n
