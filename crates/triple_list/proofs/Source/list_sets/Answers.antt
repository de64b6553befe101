-- `triple_list::Source::list_sets` meets its contract: the sets before place i are done. Assumes nothing.
use borrow.Author.Rules.{rules}
use lib.ListN.{length}
use mathlib.Core.Path.{◌≡◌}
use native.Mathlib.Omega.{arith}
use Rattle.node_list.proofs.SetList.{few_sets}
use Rattle.triple_list.specs.Triples.{SetEdge}
use Rattle.triple_list.proofs.EdgeLaws.{by_set, set_after, set_room, sets_end}
use Rattle.triple_list.proofs.ListedLaws.{listed_again, listed_start}
use Rattle.triple_list.proofs.Source.list_sets.Goals as goal

pub loop-i-init : goal.loop-i-init
loop-i-init c = let a = c.args in
    (search rules, omega arith, listed_start (SetEdge a.self.now.core.triples.now a.sets.now a.self.now.places.now (length a.self.now.core.nodes.now)) a.first _)

pub list_set-next-requires : goal.list_set-next-requires
list_set-next-requires c = let l = c.loop-i in
    let a = c.args in (
      omega arith,
      omega (arith, few_sets c.requires.0, a.self.now.core.fits.few),
      omega (arith, set_room c.requires.0 l.i l.next a.first (omega arith) l.invariant.1, c.requires.1),
      omega (arith, c.requires.2, l.invariant.0),
    )

pub loop-i-preserved : goal.loop-i-preserved
loop-i-preserved c = let l = c.loop-i in
    let m = c.list_set-next in
    let a = c.args in (
      search rules,
      set_after c.requires.0 l.i l.next m.result a.first (omega arith) l.invariant.1 m.ensures.1,
      listed_again (SetEdge a.self.now.core.triples.now a.sets.now a.self.now.places.now (length a.self.now.core.nodes.now)) l.invariant.2 m.ensures.0
          (omega (arith, set_room c.requires.0 l.i l.next a.first (omega arith) l.invariant.1, c.requires.1, c.requires.2)) (λ P k h. by_set (omega arith)),
    )

pub returns : goal.returns
returns c = let l = c.loop-i in
    let e : l.i ≡ length c.args.sets.now = omega arith in
    (rw e at l.invariant.2, omega (arith, sets_end c.requires.0 l.i l.next c.args.first (omega arith) l.invariant.1, c.requires.1))
