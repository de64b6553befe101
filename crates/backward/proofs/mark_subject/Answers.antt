-- `backward::mark_subject` meets its contract. Assumes nothing.
use mathlib.Core.Path.{sym, ◌∙◌}
use native.Mathlib.Omega.{arith}
use Rattle.backward.proofs.Backward.{subject_none, subject_one}
use Rattle.backward.proofs.mark_subject.Goals as goal

pub mark-requires : goal.mark-requires
mark-requires c = (_, omega arith, c.requires.1.1)

pub returns-then-takes_predicate : goal.returns-then-takes_predicate
returns-then-takes_predicate c = subject_one (sym c.takes_predicate.ensures ∙ c.if-takes_predicate.true) (c.mark.ensures _ (omega arith) c.requires.1.1)

pub returns-else-takes_predicate : goal.returns-else-takes_predicate
returns-else-takes_predicate c = subject_none _ c.if-takes_predicate.false c.takes_predicate.ensures c.requires.1.1
