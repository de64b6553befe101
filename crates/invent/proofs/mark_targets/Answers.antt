-- `invent::mark_targets` meets its contract. Assumes nothing.
use mathlib.Core.Path.{sym, ap, ◌∙◌}
use native.Mathlib.Omega.{arith}
use Rattle.invent.specs.Invent.{number_of}
use Rattle.invent.proofs.Marks.{marks_targets}
use Rattle.invent.proofs.SetNumbers.{number_lt}
use Rattle.meaning.specs.Limits.{set_words}
use Rattle.invent.proofs.mark_targets.Goals as goal

pub returns-then-required_in : goal.returns-then-required_in
returns-then-required_in c = let n = c.set_number in
    let t = c.targets_in in
    let r = c.required_in in
    let small = number_lt t.result (omega arith) in
    λ mask p. marks_targets (sym r.ensures ∙ c.if-required_in.true) (n.ensures ∙ ap number_of t.ensures)
    (c.mark.ensures set_words (omega (arith, n.ensures, small)) c.requires)
