-- `construct::construct` meets its contract. Assumes nothing.
use Rattle.std.proofs.Common.{refl}
use Rattle.std.proofs.lemmas.Result.{err_from_is_err_and}
use Rattle.construct.proofs.FromSteps.{checked_answer, is_resolved, rows_answer, setting_loaded}
use Rattle.construct.proofs.construct.Goals as goal

pub returns-in_err-counts : goal.returns-in_err-counts
returns-in_err-counts c =
    let p = err_from_is_err_and c.from_residual.result c.from_residual.ensures.1 in
    rw (p.1, p.2) (checked_answer c.check.new.numbers c.check.new.rows c.in_err-counts.ensures (refl, (refl, (refl, tt))), tt)

pub from_rows-requires : goal.from_rows-requires
from_rows-requires c = let p = c.requires in (is_resolved c.in_ok-counts.ensures, p.0, p.1, p.2, p.4)

pub returns-in_err-size : goal.returns-in_err-size
returns-in_err-size c =
    let p = err_from_is_err_and c.from_residual-in_err-size.result c.from_residual-in_err-size.ensures.1 in
    rw (p.1, p.2) (rows_answer c.in_ok-counts.ensures c.in_err-size.ensures, tt)

pub returns : goal.returns
returns c = (rows_answer c.in_ok-counts.ensures c.in_ok-size.ensures, setting_loaded c.in_ok-counts.ensures)
