-- `arguments::part_len` meets its contract: the first "/" is where the first part ends. Assumes nothing.
use borrow.Author.Rules.{rules}
use lib.Dec.{eqb}
use mathlib.Core.Path.{sym, ◌∙◌}
use Rattle.iris.proofs.Segments.{first_slash, position_or}
use Rattle.spelling.specs.Iri.{slash}
use Rattle.std.proofs.Common.{tests}
use Rattle.std.proofs.lemmas.Iterator.Search.{position_from_yields_List}
use Rattle.std.proofs.lemmas.Iterator.{YieldsList-from_slice}
use Rattle.iris.proofs.arguments.part_len.Goals as goal

pub returns : goal.returns
returns c =
    let s = c.args.text.now in
    let found = position_from_yields_List (λ b. eqb b slash) _ _ c.position.result c.position.ensures.ran (YieldsList-from_slice s cc) (λ x b q k. search (rules, tests)) in
    c.unwrap_or.ensures ∙ position_or (λ b. eqb b slash) s c.position.result found ∙ sym (first_slash s)
