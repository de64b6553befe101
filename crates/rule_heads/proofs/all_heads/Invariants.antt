use Rattle.std.proofs.Common.{◌≡◌, length, take}
use Rattle.rule_heads.proofs.Collecting.{Collecting}
use Rattle.rule_heads.proofs.all_heads.Given as goal

abbrev pub invariant-loop-r : goal.invariant-loop-r
invariant-loop-r l = (length l.work ≡ length l.initial.work) × Collecting l.setting.numbers.now (take l.many l.rows) l.count l.initial.heads l.r l.heads l.each
