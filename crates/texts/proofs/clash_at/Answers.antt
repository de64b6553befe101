-- `clash_at` meets its contract: by its key. Assumes nothing.
use borrow.Author.Tests.{eq-eqb, ne_eqb}
use mathlib.Core.Path.{sym, ◌∙◌}
use Rattle.texts.proofs.Keys.{prefix_inside, says_cells, says_prefixes, says_texts, text_inside}
use borrow.Author.Rules.{rules}
use Rattle.texts.proofs.clash_at.Goals as goal

pub same_at-requires : goal.same_at-requires
same_at-requires c = search (text_inside, rules)

pub begins_at-requires : goal.begins_at-requires
begins_at-requires c = search (prefix_inside, rules)

pub returns-in-Text : goal.returns-in-Text
returns-in-Text c = says_texts c.in-Text.is c.same_at.ensures

pub returns-then-begins_at : goal.returns-then-begins_at
returns-then-begins_at c = says_prefixes c.in-Prefix.is (rw (sym c.begins_at.ensures ∙ c.if-begins_at.true) c.if-begins_at.true)

pub begins_at-requires-else-begins_at : goal.begins_at-requires-else-begins_at
begins_at-requires-else-begins_at c = search (prefix_inside, rules)

pub returns-else-begins_at : goal.returns-else-begins_at
returns-else-begins_at c = says_prefixes c.in-Prefix.is (rw (sym c.begins_at.ensures ∙ c.if-begins_at.false) c.begins_at-else-begins_at.ensures)

pub returns-then-a-b : goal.returns-then-a-b
returns-then-a-b c = says_cells c.in-Cell.is (rw (eq-eqb _ _ c.if-a-b.true))

pub returns-else-a-b : goal.returns-else-a-b
returns-else-a-b c = says_cells c.in-Cell.is (rw (ne_eqb _ _ c.if-a-b.false))
