use Rattle.matching.proofs.Columns.{Columns}
use Rattle.matching.proofs.binding.bind_row.Given as goal

abbrev pub invariant-loop-c : goal.invariant-loop-c
invariant-loop-c l = Columns l.own l.initial.env l.key l.c-index l.rest l.env
