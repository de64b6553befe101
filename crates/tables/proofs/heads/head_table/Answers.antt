-- `heads::head_table` meets its contract: the heads of the first rules are put. Assumes nothing.
use mathlib.Core.Path.{refl}
use native.Mathlib.Omega.{arith}
use Rattle.names.proofs.Rule.{rules_few}
use Rattle.meaning.proofs.Lists.Filling.{put_on, put_start}
use Rattle.tables.proofs.Rows.{heads_done}
use Rattle.tables.proofs.heads.head_table.Goals as goal

pub loop-i-init : goal.loop-i-init
loop-i-init c = put_start _ refl

pub head-requires : goal.head-requires
head-requires c = let g = c.requires.given in omega (arith, rules_few g, g.long)

pub loop-i-preserved : goal.loop-i-preserved
loop-i-preserved c = put_on c.loop-i.invariant (omega (arith, rules_few c.requires.given)) c.head.ensures

pub returns : goal.returns
returns c = λ P g. heads_done g c.loop-i.invariant c.loop-i-test.false
