-- `walk::thread` meets its contract. Assumes nothing.
use lib.ListN.{length-set}
use native.Mathlib.Omega.{arith}
use Prim.Native.Nat.{◌-◌}
use Rattle.walk.proofs.Links.{part_ready, thread_again}
use Rattle.walk.proofs.thread.Goals as goal

pub thread_part-requires : goal.thread_part-requires
thread_part-requires c =
    let g = c.requires.room in
    let k = length-set c.args.next.now (c.args.n - 1) c.args.n in
    part_ready c.requires c.loop-i.next (c.loop-i.i - 1) (omega arith) (omega arith)

pub loop-i-preserved : goal.loop-i-preserved
loop-i-preserved c = (omega arith, thread_again c.requires (omega arith) (omega arith) c.loop-i.invariant.1 c.thread_part.ensures)
