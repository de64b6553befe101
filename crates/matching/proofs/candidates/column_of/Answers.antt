-- `matching::candidates::column_of` meets its contract. Assumes nothing.
use borrow.Author.Rules.{rules}
use borrow.Author.Tests.{tests}
use mathlib.Core.Path.{◌≡◌, sym, ◌∙◌}
use Rattle.std.proofs.lemmas.Iterator.{IsFirst-from_position, YieldsList-from_slice}
use Rattle.matching.proofs.FirstColumn.{column_found}
use Rattle.matching.proofs.candidates.column_of.Goals as goal

pub returns : goal.returns
returns c =
    c.unwrap_or.ensures
    ∙ sym (column_found c.args.v c.args.own.now c.position.result
    (IsFirst-from_position _ _ _ (λ w. w ≡ c.args.v) (λ w. w ≡ c.args.v → ⊥) c.position.ensures.ran (YieldsList-from_slice c.args.own.now cc)
    (λ x q k. search (rules, tests)) (λ x q k. search (rules, tests))))
