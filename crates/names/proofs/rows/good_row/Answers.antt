-- `rows::good_row` meets its contract. Assumes nothing.
use borrow.Author.Tests.{tests}
use mathlib.Core.Path.{refl, sym, ◌∙◌}
use native.Mathlib.Omega.{arith}
use Prim.Native.Nat.{◌+◌}
use lib.ListN.{get_or}
use lib.Seq.{slice}
use Rattle.std.proofs.lemmas.Iterator.{YieldsList-from_slice}
use Rattle.std.proofs.lemmas.Iterator.Search.{all_from_yields_List}
use Rattle.meaning.proofs.Lists.Library.{every_all}
use Rattle.meaning.specs.Limits.{relations_at, row_width}
use Rattle.names.proofs.Counted.{arity_small, relations_few}
use Rattle.names.proofs.Cells.{below, no_relation, row_ends, row_stops, spare}
use Rattle.meaning.proofs.Lists.Ranges.{part_slice}
use borrow.Author.Rules.{rules}
use Rattle.names.proofs.rows.good_row.Goals as goal

pub returns-then-setting-relation : goal.returns-then-setting-relation
returns-then-setting-relation c = λ P g x r. no_relation g r c.if-setting-relation.true

pub overflow_add-arity : goal.overflow_add-arity
overflow_add-arity c = omega (arith, relations_few c.requires.0.given)

pub offset_bounds-setting-relation : goal.offset_bounds-setting-relation
offset_bounds-setting-relation c = let pre = c.requires in omega (arith, relations_few pre.0.given, pre.0.given.long)

pub bounds-setting-relation : goal.bounds-setting-relation
bounds-setting-relation c = let g = c.requires.0.given in
    omega (arith, relations_few g, g.long)

pub overflow_add-middle : goal.overflow_add-middle
overflow_add-middle c = omega (arith, arity_small c.requires.0.given c.if-setting-relation.false)

pub slice_bounds-iter-end : goal.slice_bounds-iter-end
slice_bounds-iter-end c = omega (arith, arity_small c.requires.0.given c.if-setting-relation.false)

pub returns-then-not-all : goal.returns-then-not-all
returns-then-not-all c = λ P g x r.
    let a = c.args.at + 1 in
    let b = a + get_or c.args.setting.now.numbers.now (relations_at + get_or c.args.rows.now c.args.at 0) 0 in
    let below_values = below (get_or c.args.setting.now.counts 0 0) in
    let cells = slice a b c.args.rows.now in
    let e = all_from_yields_List below_values _ _ c.all.result c.all.ensures.ran
    (YieldsList-from_slice cells (c.iter.ensures.rest ∙ part_slice a b c.args.rows.now (omega arith))) (λ x b q k. search (rules, tests)) in
    row_stops g r c.if-setting-relation.false refl (e ∙ sym (every_all below_values cells)) c.if-not-all.true

pub slice_bounds-iter-start-2 : goal.slice_bounds-iter-start-2
slice_bounds-iter-start-2 c = omega (arith, arity_small c.requires.0.given c.if-setting-relation.false)

pub slice_bounds-iter-count-2 : goal.slice_bounds-iter-count-2
slice_bounds-iter-count-2 c = omega (arith, arity_small c.requires.0.given c.if-setting-relation.false)

pub returns : goal.returns
returns c = λ P g x r.
    let a = c.args.at + 1 in
    let b = a + get_or c.args.setting.now.numbers.now (relations_at + get_or c.args.rows.now c.args.at 0) 0 in
    let below_values = below (get_or c.args.setting.now.counts 0 0) in
    let cells = slice a b c.args.rows.now in
    let s = arity_small c.requires.0.given c.if-setting-relation.false in
    let e = all_from_yields_List below_values _ _ c.all.result c.all.ensures.ran
    (YieldsList-from_slice cells (c.iter.ensures.rest ∙ part_slice a b c.args.rows.now (omega arith))) (λ x b q k. search (rules, tests)) in
    let others = slice b (c.args.at + row_width) c.args.rows.now in
    let f = all_from_yields_List spare _ _ c.all-2.result c.all-2.ensures.ran
    (YieldsList-from_slice others (c.iter-2.ensures.rest ∙ part_slice b (c.args.at + row_width) c.args.rows.now (omega (arith, s))))
    (λ x b q k. search (rules, tests)) in
    row_ends g r c.if-setting-relation.false refl (e ∙ sym (every_all below_values cells)) c.if-not-all.false (f ∙ sym (every_all spare others))
