-- `arities::arities` meets its contract: the arities of the first constructors are put. Assumes nothing.
use mathlib.Core.Path.{refl}
use native.Mathlib.Omega.{arith}
use Rattle.names.proofs.Counted.{constructors_few}
use Rattle.meaning.proofs.Lists.Filling.{put_on, put_start}
use Rattle.tables.proofs.Rows.{arities_done, arity_small}
use Rattle.tables.proofs.arities.arities.Goals as goal

pub loop-i-init : goal.loop-i-init
loop-i-init c = put_start _ refl

pub overflow_cast-arities : goal.overflow_cast-arities
overflow_cast-arities c = omega (arith, arity_small c.requires.given _ c.loop-i-test.true)

pub loop-i-preserved : goal.loop-i-preserved
loop-i-preserved c = put_on c.loop-i.invariant (omega (arith, constructors_few c.requires.given)) refl

pub returns : goal.returns
returns c = λ P g. arities_done g c.loop-i.invariant c.loop-i-test.false
