-- `invent::close` meets its contract: what follows from the sets that have been looked at is marked. Assumes nothing.
use mathlib.Core.List.{List}
use mathlib.Core.Path.{◌≡◌, refl, sym, subst}
use Prim.Native.Nat.{ℕ}
use Rattle.invent.specs.Invent.{CloseShown}
use Rattle.invent.proofs.Closing.{closing_again, closing_done, closing_start, following}
use Rattle.meaning.specs.Limits.{set_words}
use Rattle.worklist.proofs.Growth.{same_start, same_then, turn_left}
use Rattle.worklist.specs.Table.{Board, Same}
use Rattle.invent.proofs.close.Goals as goal

pub loop-number-init : goal.loop-number-init
loop-number-init c = let pre = c.requires in (pre.0, same_start, λ P h. closing_start pre.1)

pub loop-number-smaller : goal.loop-number-smaller
loop-number-smaller c = let t = c.loop-number.invariant.0 in
    turn_left t (c.in-Some.ensures set_words t.stacked).1 c.mark_all.ensures.grows

pub loop-number-preserved : goal.loop-number-preserved
loop-number-preserved c = let t = c.loop-number.invariant.0 in
    let k = (c.in-Some.ensures set_words t.stacked).1 in
    let m = following (k.inside _ refl) c.set_mask.ensures c.mark_all.ensures in
    (m.grows.after, same_then (same_then c.loop-number.invariant.1 k.lent) m.grows.lent, λ P h. closing_again t k (c.loop-number.invariant.2 P h) (m.adds P h))

pub returns : goal.returns
returns c = let l = c.loop-number.invariant in
    let k = c.in_default.ensures set_words l.0.stacked in
    closed k.1 (λ P h. closing_done l.0 k.0 (l.2 P h)) l.1
  where
    closed : {demands : List (List ℕ)} {start : List ℕ} {a b e : Board} → e ≡ b → CloseShown demands start b.marked → Same a b → CloseShown demands start e.marked × Same a e
    closed {demands} {start} {a} q s m = (subst (λ x. CloseShown demands start x.marked) (sym q) s, subst (Same a) (sym q) m)
