use Rattle.load.proofs.Packs.{Before}
use Rattle.load.proofs.load.Given as goal

abbrev pub invariant-loop-i : goal.invariant-loop-i
invariant-loop-i l = Before l.i l.s l.counts l.initial.numbers l.numbers
