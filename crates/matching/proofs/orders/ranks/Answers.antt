-- `matching::orders::ranks` meets its contract: the ranks of the first c variables. Assumes nothing.
use borrow.Author.Rules.{rules}
use lib.ListN.{length, take}
use Rattle.matching.specs.Plan.{Ranked}
use mathlib.Core.Path.{sym}
use native.Mathlib.Omega.{arith}
use Prim.Native.Nat.{◌≤◌, ◌<◌}
use Rattle.meaning.specs.Ordered.{ListOf}
use Rattle.sets.proofs.Slices.{given_back, same_start, same_then}
use Rattle.matching.proofs.Order.{ranking_start, ranking_again, ranking_done}
use Rattle.meaning.proofs.Lists.Places.{∈_at}
use Rattle.matching.proofs.orders.ranks.Goals as goal

pub loop-v-init : goal.loop-v-init
loop-v-init c = (rw c.empty-set.ensures.1 (ranking_start _ _ _), same_start)

pub bounds-seen-v : goal.bounds-seen-v
bounds-seen-v c = let pre = c.requires in
    let args = c.args in
    omega (arith, pre.0.below _ (∈_at args.own.now c.loop-v.v-index c.loop-v-test.true))

pub store-requires : goal.store-requires
store-requires c = let i = c.loop-v.invariant.0 in
    omega (arith, i.few, i.long, c.loop-v-test.true, c.requires.0.short, rw (sym c.empty-set.ensures.0) at c.requires.1)

pub loop-v-preserved : goal.loop-v-preserved
loop-v-preserved c = let s = c.store.ensures in
    (ranking_again _ _ c.loop-v.invariant.0 c.loop-v-test.true _ c.rank.ensures _ _ (s.0, s.1) s.2.long, same_then c.loop-v.invariant.1 s.2)

pub returns : goal.returns
returns c = let a = c.args in
    let n = c.loop-v.set.count in
    given_back (λ out. (n ≤ length a.own.now) × ListOf ◌<◌ (Ranked a.own.now a.seen) (take n out)) c.loop-v.invariant.1 (search rules)
    (ranking_done _ _ c.loop-v.invariant.0 c.loop-v-test.false)
