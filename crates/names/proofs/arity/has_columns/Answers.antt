-- `arity::has_columns` meets its contract. Assumes nothing.
use native.Mathlib.Omega.{arith}
use Rattle.names.proofs.Counted.{arity_none, arity_there, relations_few}
use Rattle.names.proofs.arity.has_columns.Goals as goal

pub returns-then-setting-i : goal.returns-then-setting-i
returns-then-setting-i c = λ P g. rw (arity_none g c.if-setting-i.true)

pub bounds-setting-i : goal.bounds-setting-i
bounds-setting-i c = omega (arith, relations_few c.requires.given, c.requires.given.long)

pub returns : goal.returns
returns c = λ P g. rw (arity_there g c.if-setting-i.false)
