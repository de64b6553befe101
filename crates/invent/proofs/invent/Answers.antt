-- `invent::invent` meets its contract. Assumes nothing.
use borrow.Author.Rules.{rules}
use mathlib.Core.Path.{refl}
use Rattle.invent.specs.Invent.{InventShown}
use Rattle.invent.proofs.Closing.{marked_from, none_marked, none_there}
use Rattle.invent.proofs.Invented.{invented_sets}
use Rattle.core_lists.proofs.Places.{shaped}
use Rattle.worklist.proofs.Growth.{given_back, same_then}
use Rattle.invent.proofs.invent.Goals as goal

pub seed-requires : goal.seed-requires
seed-requires c = none_marked c.requires.0 refl refl refl

pub returns : goal.returns
returns c = let a = c.args in
    let b = c.close.new.board in
    given_back (λ marked waiting stack. InventShown a.shapes.now a.core.now marked) {waiting = b.waiting.now} {stack = b.stack.now}
    (same_then c.seed.ensures.grows.lent c.close.ensures.1) (search rules) (λ e. refl) (λ e. refl)
    (λ P I.
    let d = c.demand_table-demands.ensures P.setting (shaped I) in
    invented_sets I (marked_from (none_there c.requires.0) (c.seed.ensures.adds P d)) _ (c.close.ensures.0 P d))
