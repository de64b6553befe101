-- `load` meets its contract: the bodies before body i are in the numbers, or one is not whole. Assumes nothing.
use native.Mathlib.Omega.{arith}
use Rattle.meaning.specs.Limits.{rows_body}
use Rattle.load.proofs.Packs.{before_done, before_on, no_pack}
use Rattle.load.proofs.Places.{rows_room, setting_room}
use Rattle.load.proofs.load.Goals as goal

pub load_part-requires : goal.load_part-requires
load_part-requires c = (c.requires.0, omega arith, setting_room c.loop-i.i c.loop-i.numbers c.loop-i-test.true (omega (arith, c.loop-i.invariant.long, c.requires.1)))

pub returns-in_err-counts : goal.returns-in_err-counts
returns-in_err-counts c = rw c.from_residual.ensures (no_pack _ c.loop-i.i (omega (arith, c.loop-i-test.true)) c.in_err-counts.ensures)

pub loop-i-preserved : goal.loop-i-preserved
loop-i-preserved c = before_on c.loop-i.invariant c.loop-i-test.true c.load_part.auto.out c.in_ok-counts.ensures

pub load_part-requires-2 : goal.load_part-requires-2
load_part-requires-2 c = (c.requires.0, omega arith, rows_room c.args.rows.now c.requires.2)

pub returns-in_err-counts-2 : goal.returns-in_err-counts-2
returns-in_err-counts-2 c = rw c.from_residual-in_err-counts-2.ensures (no_pack _ rows_body (omega arith) c.in_err-counts-2.ensures)

pub returns : goal.returns
returns c = before_done c.loop-i.invariant c.loop-i-test.false c.in_ok-counts-2.ensures
