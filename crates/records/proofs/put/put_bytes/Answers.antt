-- `put::put_bytes` meets its contract: the first i bytes are put. Assumes nothing.
use Rattle.records.proofs.Putting.{putting_on}
use Rattle.records.proofs.put.put_bytes.Goals as goal

pub loop-i-preserved : goal.loop-i-preserved
loop-i-preserved c = putting_on c.loop-i.invariant c.requires c.loop-i-test.true
