-- `triple_list::Source::list_subject` meets its contract: the predicates below p are done. Assumes nothing.
use borrow.Author.Rules.{rules}
use native.Mathlib.Omega.{arith}
use Rattle.triple_list.specs.Triples.{EdgeFrom}
use Rattle.triple_list.proofs.EdgeLaws.{by_predicate, origin_number, origin_room}
use Rattle.triple_list.proofs.ListedLaws.{listed_again, listed_for, listed_start}
use Rattle.core_lists.proofs.Origin.{next_predicate}
use Rattle.triple_list.proofs.Source.list_subject.Goals as goal

pub loop-p-init : goal.loop-p-init
loop-p-init c = let a = c.args in
    (search rules, omega arith, c.requires.1, listed_start (λ P. EdgeFrom P a.self.now.core.triples.now a.self.now.places.now a.subject a.mask) _ _)

pub list_origin-next-requires : goal.list_origin-next-requires
list_origin-next-requires c = let l = c.loop-p in
    let a = c.args in (
      c.requires.0,
      omega arith,
      l.invariant.2,
      origin_room a.self.now.core.triples.now a.subject l.p l.next.triple l.next.at a.first.triple a.first.at (omega arith) l.invariant.1 c.requires.2,
      omega (arith, c.requires.3, l.invariant.0),
    )

pub loop-p-preserved : goal.loop-p-preserved
loop-p-preserved c = let m = c.list_origin-next in
    let l = c.loop-p in
    let d = c.demands_of-row.ensures in
    let a = c.args in (
      search rules,
      omega (arith, l.invariant.1, m.ensures.1),
      next_predicate a.self.now.core.triples.now a.subject m.result.at l.p m.ensures.2,
      listed_again (λ P. EdgeFrom P a.self.now.core.triples.now a.self.now.places.now a.subject a.mask) l.invariant.3
          (listed_for (λ P h. d P.setting h l.p (omega arith)) (m.ensures.0 a.mask))
          (omega (
            arith,
            c.requires.3,
            origin_number a.self.now.core.triples.now a.subject l.p l.next.triple l.next.at a.first.triple a.first.at (omega arith) l.invariant.1
                c.requires.2 l.invariant.2,
          )) (λ P k h. by_predicate h),
    )
