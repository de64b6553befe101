-- `triple_list::Source::list_origin` meets its contract. Assumes nothing.
use lib.ListN.{drop, length-drop}
use lib.Seq.{length-take-le}
use mathlib.Core.List.{List}
use mathlib.Core.Path.{sym, ◌∙◌}
use native.Mathlib.Omega.{arith}
use Prim.Native.Nat.{ℕ, ◌+◌, ◌-◌, ◌≤◌}
use Rattle.spread.specs.Keys.{origin_at}
use Rattle.triple_list.proofs.EdgeLaws.{origin_free, origin_gets, origin_present}
use Rattle.core_lists.proofs.Origin.{keys_le, keys_mono}
use Rattle.core_lists.specs.Origin.{keys_before}
use Rattle.triple_list.proofs.Source.list_origin.Goals as goal

rise : (q : ℕ) (ks : List ℕ) → keys_before q ks ≤ keys_before (q + 1) ks
rise q ks = keys_mono q (q + 1) (omega arith) ks

pub offset_bounds-self-from : goal.offset_bounds-self-from
offset_bounds-self-from c = let a = c.args in omega (arith, c.requires.2, keys_le (origin_at a.subject a.p) a.self.now.core.triples.now)

pub slice_bounds-list_edges-count : goal.slice_bounds-list_edges-count
slice_bounds-list_edges-count c = let a = c.args in omega (arith, c.requires.2, c.after-at.ensures, rise (origin_at a.subject a.p) a.self.now.core.triples.now)

pub slice_bounds-list_edges-start : goal.slice_bounds-list_edges-start
slice_bounds-list_edges-start c = let a = c.args in omega (arith, c.requires.2, c.after-at.ensures, rise (origin_at a.subject a.p) a.self.now.core.triples.now)

pub slice_bounds-list_edges-end : goal.slice_bounds-list_edges-end
slice_bounds-list_edges-end c = let a = c.args in omega (arith, c.after-at.ensures, keys_le (origin_at a.subject a.p + 1) a.self.now.core.triples.now)

pub list_edges-requires : goal.list_edges-requires
list_edges-requires c = let a = c.args in
    let m = rise (origin_at a.subject a.p) a.self.now.core.triples.now in (
      c.requires.0,
      c.requires.1,
      omega (
        arith,
        c.requires.2,
        c.requires.3,
        c.after-at.ensures,
        m,
        length-take-le (c.after-at.result - a.next.at) (drop a.next.at a.self.now.core.triples.now)
            (omega (arith, length-drop a.next.at a.self.now.core.triples.now, c.after-at.ensures, keys_le (origin_at a.subject a.p + 1) a.self.now.core.triples.now)),
      ),
      c.requires.4,
    )

pub overflow_sub-result : goal.overflow_sub-result
overflow_sub-result c = let a = c.args in omega (arith, c.requires.2, c.after-at.ensures, rise (origin_at a.subject a.p) a.self.now.core.triples.now)

pub returns-then-at-from : goal.returns-then-at-from
returns-then-at-from c = let a = c.args in
    origin_present a.demand a.self.now.core.triples.now a.self.now.places.now a.self.now.core.fits.triples_ascend a.subject a.p a.next.at a.next.triple c.requires.2 a.out.now _
    c.after-at.ensures c.if-at-from.true _ c.list_edges.ensures

pub returns-then-not-required_in : goal.returns-then-not-required_in
returns-then-not-required_in c = let q = c.required_in in
    let a = c.args in
    origin_free a.demand a.self.now.core.triples.now a.self.now.places.now a.self.now.core.fits.triples_ascend a.subject a.p a.next.at a.next.triple c.requires.2 a.out.now _
    c.after-at.ensures c.if-at-from.false (sym q.ensures ∙ c.if-not-required_in.true)

pub returns : goal.returns
returns c = let q = c.required_in in
    let t = c.targets_in in
    let a = c.args in
    origin_gets a.demand a.self.now.core.triples.now a.self.now.places.now a.self.now.core.fits.triples_ascend a.subject a.p a.next.at a.next.triple c.requires.2 a.out.now _
    c.after-at.ensures c.if-at-from.false (sym q.ensures ∙ c.if-not-required_in.false) t.result t.ensures _
    c.write_record.ensures
