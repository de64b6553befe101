-- `load_body` meets its contract: the records before the cursor are held. Assumes nothing.
use native.Mathlib.Omega.{arith}
use Rattle.load.proofs.Loading.{loading_done, loading_full, loading_less, loading_on, loading_stuck}
use Rattle.load.proofs.load_body.Goals as goal

pub returns-then-limit-n : goal.returns-then-limit-n
returns-then-limit-n c = loading_full c.loop-c.invariant c.loop-c-test.true (omega (arith, c.if-limit-n.true))

pub loop-c-smaller : goal.loop-c-smaller
loop-c-smaller c = loading_less c.loop-c.invariant c.in_ok-c.ensures

pub loop-c-preserved : goal.loop-c-preserved
loop-c-preserved c = loading_on c.loop-c.invariant c.requires.1 c.if-limit-n.false c.width-size.ensures c.in_ok-c.ensures

pub returns-in_err-c : goal.returns-in_err-c
returns-in_err-c c = rw c.from_residual.ensures (loading_stuck c.loop-c.invariant c.loop-c-test.true c.in_err-c.ensures)

pub returns : goal.returns
returns c = loading_done c.loop-c.invariant c.loop-c-test.false
