use Rattle.spread.proofs.Spreading.{Spreading}
use Rattle.spread.specs.Spread.{mask_room}
use Rattle.spread.proofs.spread.Given as goal

abbrev pub invariant-loop-passed : goal.invariant-loop-passed
invariant-loop-passed l = Spreading l.shapes l.triples l.rounds l.passed l.initial.masks l.masks

abbrev pub decreases-loop-passed : goal.decreases-loop-passed
decreases-loop-passed l = mask_room l.masks
