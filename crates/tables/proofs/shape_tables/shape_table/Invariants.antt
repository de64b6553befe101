use Rattle.tables.proofs.Filling.{Filled}
use Rattle.tables.proofs.shape_tables.shape_table.Given as goal

abbrev pub invariant-loop-i : goal.invariant-loop-i
invariant-loop-i l = Filled l.n l.setting.numbers.now l.table l.i
