-- `clash_before` meets its contract: the records before record j decide. Assumes nothing.
use borrow.Author.Rules.{rules}
use borrow.Author.Tests.{tests}
use lib.ListN.{take}
use mathlib.Core.Path.{refl}
use Rattle.std.proofs.lemmas.Iterator.{serves_from_Range}
use Rattle.meaning.proofs.Lists.Ranges.{any_entry}
use Rattle.texts.specs.Compared.{clashes, Keyed}
use Rattle.texts.proofs.EarlierRecords.{before_long, last_inside, last_shows, one_inside, one_says, one_shows}
use Rattle.texts.proofs.clash_before.Goals as goal

pub overflow_add-first : goal.overflow_add-first
overflow_add-first c = let h = last_inside c.requires c.width_of-width.ensures c.first_of.ensures in search rules

pub overflow_mul-last : goal.overflow_mul-last
overflow_mul-last c = let h = last_inside c.requires c.width_of-width.ensures c.first_of.ensures in search rules

pub overflow_add-last : goal.overflow_add-last
overflow_add-last c = let h = last_inside c.requires c.width_of-width.ensures c.first_of.ensures in search rules

pub offset_bounds-numbers-last : goal.offset_bounds-numbers-last
offset_bounds-numbers-last c = let h = last_inside c.requires c.width_of-width.ensures c.first_of.ensures in search rules

pub bounds-numbers-last : goal.bounds-numbers-last
bounds-numbers-last c = let h = last_inside c.requires c.width_of-width.ensures c.first_of.ensures in search rules

pub overflow_add-m : goal.overflow_add-m
overflow_add-m c = let h = last_inside c.requires c.width_of-width.ensures c.first_of.ensures in search rules

pub offset_bounds-numbers-last-2 : goal.offset_bounds-numbers-last-2
offset_bounds-numbers-last-2 c = let h = last_inside c.requires c.width_of-width.ensures c.first_of.ensures in search rules

pub bounds-numbers-last-2 : goal.bounds-numbers-last-2
bounds-numbers-last-2 c = let pre = c.requires in
    let h = last_inside (pre) c.width_of-width.ensures c.first_of.ensures in
    search rules

pub any-requires-clause-callable : goal.any-requires-clause-callable
any-requires-clause-callable c =
    let w = c.width_of-width.ensures in
    let f = c.first_of.ensures in
    serves_from_Range (λ x q k. search (rules, tests))
    (λ x low high. let a = one_inside c.requires w f high in let b = one_shows c.requires w f high in let d = last_shows c.requires w f in search rules)

pub returns : goal.returns
returns c = λ records y g e.
    let w = c.width_of-width.ensures in
    let f = c.first_of.ensures in
    any_entry (λ (x : Keyed c.args.key). clashes c.args.key x y) (take c.args.j records) (before_long c.requires w f g) _ refl
    (λ i b q k. (search rules, one_says c.requires w f g e (λ h. search rules))) c.any.ensures.ran
