use Rattle.records.proofs.AtomLoop.{AtomsPut}
use Rattle.records.proofs.rule.rule_atoms.Given as goal

abbrev pub invariant-loop-i : goal.invariant-loop-i
invariant-loop-i l = AtomsPut l.initial.c l.rule.count l.i l.c l.out
