-- `rules::good_rules` meets its contract: the records decide. Assumes nothing.
use Rattle.std.proofs.Common.{refl, rules}
use Rattle.meaning.specs.WellFormed.{good_rule}
use borrow.Author.Tests.{tests}
use Rattle.std.proofs.lemmas.Iterator.{serves_from_Range}
use Rattle.names.proofs.Rule.{is_rule, rule_at, rules_few, rules_many}
use Rattle.meaning.proofs.Lists.Ranges.{all_entries}
use Rattle.names.proofs.rules.good_rules.Goals as goal

pub all-requires-clause-callable : goal.all-requires-clause-callable
all-requires-clause-callable c =
    let g = c.requires.given in
    serves_from_Range (λ x q k. search (rules, tests)) (λ x low high. let i = is_rule g x high in let f = rules_few g in search rules)

pub returns : goal.returns
returns c = λ P g. all_entries (good_rule P) P.setting.rules (rules_many g) _ refl (λ i b q k. (search rules, λ x e. let d = rule_at g i x e in search rules)) c.all.ensures.ran
