-- `forward::own::own_from` meets its contract. Assumes nothing.
use native.Mathlib.Omega.{arith}
use Rattle.forward.proofs.Owning.{own_add, own_closed, own_full, own_pass}
use Rattle.forward.proofs.own.own_from.Goals as goal
use Rattle.forward.proofs.own.own_from.Goals.{else-object-named, then-object-named}

pub loop-k-preserved : goal.loop-k-preserved
loop-k-preserved c = let i = c.loop-k.invariant in
    let l = c.loop-k-test.true in
    elim c.if-object-named.branch [
      | then-object-named w ↦ rw (w.own-is, w.end-is) (own_add i l c.requires.3 w.if-object-named.true)
      | else-object-named w ↦ rw (w.own-is, w.end-is) (own_pass i l w.if-object-named.false)
    ]

pub returns-then-end-hi : goal.returns-then-end-hi
returns-then-end-hi c = let i = c.loop-k.invariant in
    let a = i.from in
    own_closed i c.loop-k-test.false c.requires.3 (omega (arith, c.if-end-hi.true))

pub returns-else-end-hi : goal.returns-else-end-hi
returns-else-end-hi c = own_full c.loop-k.invariant c.loop-k-test.false c.if-end-hi.false
