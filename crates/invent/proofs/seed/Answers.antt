-- `invent::seed` meets its contract: the nodes below s are done. Assumes nothing.
use lib.ListN.{length}
use lib.Seq.{get_or-take, length-take-le}
use native.Mathlib.Omega.{arith}
use Prim.Native.Nat.{◌<◌}
use Rattle.invent.proofs.Marks.{upto_again, upto_start}
use Rattle.core_lists.proofs.Origin.{next_subject, no_subject}
use Rattle.invent.proofs.seed.Goals as goal

pub loop-s-init : goal.loop-s-init
loop-s-init c = (no_subject _, upto_start c.requires)

pub loop-s-preserved : goal.loop-s-preserved
loop-s-preserved c = let l = c.loop-s in
    let m = c.seed_node-at in
    let k = c.args.core.now in
    let below : l.s < length k.nodes.now = omega (arith, length-take-le (length k.nodes.now) k.masks.now k.fits.long) in (
      next_subject k.triples.now l.s m.result k.fits.predicate m.ensures.1,
      upto_again l.invariant.1 (rw (get_or-take (length k.nodes.now) k.masks.now l.s 0 below) at m.ensures.0),
    )
