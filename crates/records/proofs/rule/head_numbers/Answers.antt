-- `rule::head_numbers` meets its contract. Assumes nothing.
use mathlib.Core.Path.{refl}
use Rattle.meaning.specs.Tables.{head_numbers}
use Rattle.records.proofs.rule.head_numbers.Goals as goal
use Rattle.records.proofs.rule.head_numbers.Goals.{in-Nothing, in-Term, in-Variable}

pub returns : goal.returns
unfolding head_numbers
returns c =
    elim c.match-head.branch [
      | in-Nothing w ↦ rw (c.number.ensures, w.in-Nothing.is, w.kind-is) refl
      | in-Term w ↦ rw (c.number.ensures, w.in-Term.is, w.kind-is) refl
      | in-Variable w ↦ rw (c.number.ensures, w.in-Variable.is, w.kind-is) refl
    ]
