-- `matching::orders::written` meets its contract: the first i variables. Assumes nothing.
use lib.ListN.{length, length-set}
use native.Mathlib.Omega.{arith}
use Prim.Native.Nat.{◌+◌, ◌*◌}
use Rattle.matching.proofs.Order.{writing_start, writing_again, writing_done}
use Rattle.meaning.specs.Limits.{atom_width}
use Rattle.matching.proofs.orders.written.Goals as goal

pub loop-i-init : goal.loop-i-init
loop-i-init c = writing_start _ _ _

pub loop-i-preserved : goal.loop-i-preserved
loop-i-preserved c = writing_again c.loop-i.invariant c.loop-i-test.true c.requires.0 c.requires.1
    (omega (arith, length-set c.args.orders (c.args.j * atom_width + 1) (length c.args.set.now)))

pub returns : goal.returns
returns c = writing_done c.loop-i.invariant c.loop-i-test.false c.requires.0 (omega arith)
