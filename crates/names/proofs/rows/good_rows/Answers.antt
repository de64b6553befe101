-- `rows::good_rows` meets its contract: the rows decide. Assumes nothing.
use Rattle.std.proofs.Common.{refl, rules}
use borrow.Author.Tests.{tests}
use Rattle.std.proofs.lemmas.Iterator.{serves_from_Range}
use Rattle.meaning.specs.WellFormed.{good_row}
use Rattle.names.specs.PackGiven.{IsSetting}
use Rattle.names.proofs.Cells.{row_at, row_room, rows_few}
use Rattle.meaning.proofs.Lists.Ranges.{all_entries}
use Rattle.names.proofs.rows.good_rows.Goals as goal

pub all-requires-clause-callable : goal.all-requires-clause-callable
all-requires-clause-callable c =
    let g = c.requires.given in
    serves_from_Range (λ x q k. search (rules, tests)) (λ x low high.
    let s : IsSetting c.args.setting.now.counts c.args.setting.now.numbers.now = record { pack = _; given = g.setting } in
    let r = row_room g x high in let f = rows_few g in search rules)

pub returns : goal.returns
returns c = λ P g. all_entries (good_row P) P.rows g.many _ refl (λ i b q k. (search rules, λ x e. let d = row_at g i x e in let s = g.setting in search rules)) c.all.ensures.ran
