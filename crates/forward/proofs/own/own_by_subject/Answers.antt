-- `forward::own::own_by_subject` meets its contract. Assumes nothing.
use mathlib.Core.Path.{◌∙◌}
use native.Mathlib.Omega.{arith}
use Rattle.forward.proofs.Owning.{part_inside, parts_again, parts_done}
use Rattle.forward.proofs.own.own_by_subject.Goals as goal

pub own_from-requires : goal.own_from-requires
own_from-requires c = let r = c.requires.1 in
    let a = part_inside r.by_subject c.loop-n.n c.loop-n-test.true in
    let f = r.few in
    let w = r.whole in
    let m = r.room in
    let i = c.loop-n.invariant.1 in
    (omega arith, omega arith, omega arith, omega arith)

pub loop-n-preserved : goal.loop-n-preserved
loop-n-preserved c = let i = c.loop-n.invariant in
    let l = c.loop-n-test.true in
    (omega arith, c.own_from.auto.own ∙ i.1, parts_again c.requires.1.by_subject l i.2 c.own_from.ensures)

pub returns : goal.returns
returns c edges r = let i = c.loop-n.invariant in parts_done r i.1 c.loop-n-test.false i.2
