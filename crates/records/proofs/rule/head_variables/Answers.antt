-- `rule::head_variables` meets its contract. Assumes nothing.
use Rattle.records.proofs.Terms.{variables_link, variables_type, variables_value}
use Rattle.records.proofs.rule.head_variables.Goals as goal

pub returns-in-Nothing : goal.returns-in-Nothing
returns-in-Nothing c = rw c.in-Nothing.is (variables_type _ _ c.args.head.subject.few c.put_bytes.ensures)

pub returns-in-Term : goal.returns-in-Term
returns-in-Term c = rw c.in-Term.is (variables_link _ _ c.args.head.subject.few c.put_bytes.ensures _ c.in-Term.other.few c.put_bytes-in-Term.ensures)

pub returns-in-Variable : goal.returns-in-Variable
returns-in-Variable c = rw c.in-Variable.is (variables_value _ _ c.args.head.subject.few c.put_bytes.ensures _ c.put.ensures)
