-- `rule::variable_count` meets its contract. Assumes nothing.
use Rattle.records.proofs.Terms.{count_type, count_link, count_value}
use Rattle.records.proofs.rule.variable_count.Goals as goal
use Rattle.records.proofs.rule.variable_count.Goals.{in-Nothing, in-Term, in-Variable}

pub returns : goal.returns
returns c =
    elim c.match-head.branch [
      | in-Nothing w ↦ rw (w.in-Nothing.is, w.more-is) (count_type _ _)
      | in-Term w ↦ rw (w.in-Term.is, w.more-is) (count_link _ _ _)
      | in-Variable w ↦ rw (w.in-Variable.is, w.more-is) (count_value _ _ _)
    ]
