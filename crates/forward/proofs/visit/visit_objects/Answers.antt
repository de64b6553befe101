-- `forward::visit::visit_objects` meets its contract. Assumes nothing.
use native.Mathlib.Omega.{arith}
use Rattle.forward.proofs.Forward.{part_entry, part_inside, visit_again, visit_listed}
use Rattle.forward.proofs.visit.visit_objects.Goals as goal

pub visit_object-requires : goal.visit_object-requires
visit_object-requires c = let a = c.requires.0 in
    let l = c.loop-x-test.true in
    let e = part_entry c.args.own.now c.args.lo c.args.hi _ l in
    let t = visit_listed c.loop-x.invariant (part_inside c.args.own.now c.args.lo c.args.hi _ l) (omega (arith, e, c.if-x-eq0.false)) in
    ((a.few _ t, a.whole _ t, a.nodes _ t), c.requires.1, c.loop-x.invariant.adds.after)

pub loop-x-preserved : goal.loop-x-preserved
loop-x-preserved c = let e = part_entry c.args.own.now c.args.lo c.args.hi _ c.loop-x-test.true in
    visit_again c.loop-x.invariant (omega arith) (omega (arith, e, c.if-x-eq0.false)) c.visit_object.ensures
