-- `Cursor::sized` meets its contract. Assumes nothing.
use mathlib.Core.Path.{sym, ◌∙◌}
use Rattle.pack.proofs.Reading.{sized_got, sized_not, sized_short, sized_bad}
use Rattle.pack.proofs.cursor.Cursor.sized.Goals as goal

pub returns-in_err-value : goal.returns-in_err-value
returns-in_err-value c = rw c.from_residual.ensures (sized_not _ _ _ c.in_err-value.ensures)

pub returns-then-next-start : goal.returns-then-next-start
returns-then-next-start c = sized_short _ _ _ c.in_ok-value.ensures c.if-next-start.true

pub returns-then-not-all_pass : goal.returns-then-not-all_pass
returns-then-not-all_pass c = sized_bad _ _ _ c.in_ok-value.ensures c.if-next-start.false
    (sym c.all_pass.ensures ∙ c.if-not-all_pass.true)

pub returns : goal.returns
returns c = sized_got _ _ _ c.in_ok-value.ensures c.if-next-start.false
    (sym c.all_pass.ensures ∙ c.if-not-all_pass.false) c.past.ensures
