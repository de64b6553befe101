use Rattle.matching.proofs.Marked.{Freshening}
use Rattle.matching.proofs.marks.fresh.Given as goal

abbrev pub invariant-loop-j : goal.invariant-loop-j
invariant-loop-j l = Freshening l.atoms l.count l.vars l.j l.seen
