-- `triple_list::list_edges` meets its contract: the edges before place i are written. Assumes nothing.
use mathlib.Core.Path.{◌≡◌, refl}
use native.Mathlib.Omega.{arith}
use Prim.Native.Nat.{◌+◌}
use Rattle.triple_list.proofs.EdgeLaws.{edge_end, edge_next}
use Rattle.meaning.proofs.Lists.Recording.{records_again, records_done}
use Rattle.triple_list.proofs.list_edges.Goals as goal

pub loop-i-preserved : goal.loop-i-preserved
loop-i-preserved c = let l = c.loop-i in
    let a = c.args in
    let e : a.first + (l.i + 1) ≡ a.first + l.i + 1 = omega arith in
    rw (c.write_record.ensures, e)
    (records_again _ (rw (edge_next a.subject a.p a.edges.now l.i (omega arith)) at l.invariant) refl (omega arith))

pub returns : goal.returns
returns c = let l = c.loop-i in
    let a = c.args in
    records_done (rw (edge_end a.subject a.p a.edges.now l.i (omega arith)) at l.invariant) (omega arith) (omega arith)
