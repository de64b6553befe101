-- `Cursor::atoms` meets its contract: the atoms before the cursor are read. Assumes nothing.
use Rattle.pack.proofs.RuleReading.{atoms_on, atoms_stuck, atoms_done}
use Rattle.pack.proofs.cursor.Cursor.atoms.Goals as goal

pub returns-in_err-next : goal.returns-in_err-next
returns-in_err-next c = rw c.from_residual.ensures (atoms_stuck c.loop.invariant c.loop-test.true c.in_err-next.ensures)

pub loop-preserved : goal.loop-preserved
loop-preserved c = atoms_on c.loop.invariant c.loop-test.true c.in_ok-next.ensures

pub returns : goal.returns
returns c = atoms_done c.loop.invariant c.loop-test.false
