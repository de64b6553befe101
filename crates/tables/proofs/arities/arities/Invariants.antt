use Rattle.std.specs.Prelude.{◌+◌, ◌*◌, get_or}
use Rattle.meaning.specs.Limits.{constructor_width, constructors_at, max_constructors}
use Rattle.meaning.proofs.Lists.Filling.{Put}
use Rattle.tables.proofs.arities.arities.Given as goal

abbrev pub invariant-loop-i : goal.invariant-loop-i
invariant-loop-i l = Put (λ k. get_or l.setting.numbers.now (constructors_at + k * constructor_width) 0) 0 max_constructors l.i l.arities
