use Rattle.spread.proofs.Spreading.{RoundDone}
use Rattle.spread.proofs.round.Given as goal

abbrev pub invariant-loop-i : goal.invariant-loop-i
invariant-loop-i l = RoundDone l.shapes l.triples l.back l.i l.changed l.initial.passed l.passed l.initial.masks l.masks
