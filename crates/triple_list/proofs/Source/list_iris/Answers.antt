-- `triple_list::Source::list_iris` meets its contract: the nodes below s are done. Assumes nothing.
use borrow.Author.Rules.{rules}
use lib.ListN.{get_or, length, take}
use lib.Seq.{get_or-take, length-take-le}
use mathlib.Core.List.{List}
use mathlib.Core.Path.{◌≡◌, sym}
use native.Mathlib.Omega.{arith}
use Prim.Native.Nat.{ℕ, ◌<◌, ◌≤◌}
use Rattle.triple_list.specs.Triples.{SubjectEdge}
use Rattle.triple_list.proofs.EdgeLaws.{by_subject, iri_end, iri_room}
use Rattle.triple_list.proofs.ListedLaws.{listed_again, listed_start}
use Rattle.core_lists.proofs.Origin.{next_subject, no_subject}
use Rattle.meaning.specs.Limits.{first_literal, max_iris}
use Rattle.sets.proofs.Rank.{rank_le}
use Rattle.sets.specs.Ordered.{rank_of}
use Rattle.triple_list.proofs.Source.list_iris.Goals as goal

pub loop-s-init : goal.loop-s-init
loop-s-init c = let a = c.args in (
  search rules,
  search rules,
  no_subject a.self.now.core.triples.now,
  listed_start (λ P t. SubjectEdge P a.self.now.core.triples.now a.self.now.places.now t (get_or a.self.now.core.masks.now t 0)) 0 _,
)

-- one mask an IRI
many : (nodes masks : List ℕ) (n : ℕ) → length nodes ≤ length masks → n ≡ rank_of first_literal nodes → length (take n masks) ≡ n
many nodes masks n l e = length-take-le n masks (omega (arith, rank_le first_literal nodes))

pub slice_bounds-masks-end : goal.slice_bounds-masks-end
slice_bounds-masks-end c = let a = c.args in sym (many a.self.now.core.nodes.now a.self.now.core.masks.now c.rank-iris.result c.args.self.now.core.fits.long c.rank-iris.ensures)

pub list_subject-next-requires : goal.list_subject-next-requires
list_subject-next-requires c = let l = c.loop-s in
    let a = c.args in
    let m = many a.self.now.core.nodes.now a.self.now.core.masks.now c.rank-iris.result c.args.self.now.core.fits.long c.rank-iris.ensures in
    let i : l.s < max_iris = omega (arith, c.args.self.now.core.fits.iris, m) in (
      omega (arith, i),
      l.invariant.2,
      iri_room a.self.now.core.triples.now c.args.self.now.core.fits.short l.s l.next.triple l.next.at l.invariant.1 i,
      omega (arith, c.requires, l.invariant.0),
    )

pub loop-s-preserved : goal.loop-s-preserved
loop-s-preserved c = let l = c.loop-s in
    let n = c.list_subject-next in
    let a = c.args in
    let m = many a.self.now.core.nodes.now a.self.now.core.masks.now c.rank-iris.result c.args.self.now.core.fits.long c.rank-iris.ensures in
    let below : l.s < c.rank-iris.result = omega (arith, m) in
    let i : l.s ≤ max_iris = omega (arith, c.args.self.now.core.fits.iris) in (
      search rules,
      omega (arith, l.invariant.1, n.ensures.1),
      next_subject a.self.now.core.triples.now l.s n.result.at c.args.self.now.core.fits.predicate n.ensures.2,
      listed_again (λ P t. SubjectEdge P a.self.now.core.triples.now a.self.now.places.now t (get_or a.self.now.core.masks.now t 0)) l.invariant.3
          (rw (get_or-take c.rank-iris.result a.self.now.core.masks.now l.s 0 below) at n.ensures.0)
          (omega (arith, iri_end a.self.now.core.triples.now c.args.self.now.core.fits.short l.s l.next.triple l.next.at l.invariant.1 i l.invariant.2, c.requires)) (λ P k h. by_subject h),
    )

pub returns : goal.returns
returns c = let l = c.loop-s in
    let a = c.args in
    let m = many a.self.now.core.nodes.now a.self.now.core.masks.now c.rank-iris.result c.args.self.now.core.fits.long c.rank-iris.ensures in
    let e : l.s ≡ rank_of first_literal a.self.now.core.nodes.now = omega (arith, m) in (
      rw e at l.invariant.3,
      iri_end a.self.now.core.triples.now c.args.self.now.core.fits.short l.s l.next.triple l.next.at l.invariant.1 (omega (arith, c.args.self.now.core.fits.iris)) l.invariant.2,
    )
