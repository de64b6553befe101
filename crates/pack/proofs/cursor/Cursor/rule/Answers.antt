-- `Cursor::rule` meets its contract. Assumes nothing.
use Rattle.meaning.specs.Limits.{max_atoms}
use Rattle.pack.proofs.Reading.{byte_in_bound}
use Rattle.pack.proofs.RuleReading.{rule_got, rule_headless, rule_no_kind, rule_no_atoms, rule_not}
use Rattle.pack.proofs.cursor.Cursor.rule.Goals as goal

pub returns-in_err-count : goal.returns-in_err-count
returns-in_err-count c = rw c.from_residual.ensures (rule_not c.in_err-count.ensures)

pub returns-in_err-a : goal.returns-in_err-a
returns-in_err-a c = rw c.from_residual-in_err-a.ensures (rule_no_atoms c.in_ok-count.ensures c.in_err-a.ensures)

pub returns-in_err-kind : goal.returns-in_err-kind
returns-in_err-kind c = rw c.from_residual-in_err-kind.ensures (rule_no_kind c.in_ok-count.ensures c.in_ok-a.ensures c.in_err-kind.ensures)

pub returns-in_err-head : goal.returns-in_err-head
returns-in_err-head c = rw c.from_residual-in_err-head.ensures
    (rule_headless c.in_ok-count.ensures c.in_ok-a.ensures _ c.in_ok-kind.ensures c.in_err-head.ensures)

pub invariant_of-result : goal.invariant_of-result
invariant_of-result c = record { few = (byte_in_bound 1 max_atoms c.in_ok-count.ensures).1 }

pub returns : goal.returns
returns c = rule_got c.in_ok-count.ensures c.in_ok-a.ensures _ c.in_ok-kind.ensures c.in_ok-head.ensures
