use Rattle.std.specs.Prelude.{◌+◌, ◌*◌, [], take, drop}
use Rattle.meaning.specs.Limits.{head_width, max_rules, rule_width, rules_at}
use Rattle.names.proofs.RuleNumbers.{head_from}
use Rattle.meaning.proofs.Lists.Filling.{Put}
use Rattle.tables.proofs.heads.head_table.Given as goal

abbrev pub invariant-loop-i : goal.invariant-loop-i
invariant-loop-i l = Put (λ k. take head_width (drop (rules_at + k * rule_width + head_from) l.setting.numbers.now)) [] max_rules l.i l.table
