-- `readback::read_back` meets its contract: a pack that passes the check is loaded. Assumes nothing.
use mathlib.Core.Path.{ap}
use Rattle.readback.proofs.FromRead.{found_answer}
use Rattle.readback.specs.Answer.{not_well_formed}
use Rattle.std.proofs.Common.{Err}
use Rattle.std.proofs.lemmas.Result.{err_from_is_err_and}
use Rattle.readback.proofs.read_back.Goals as goal

pub returns-in_err-counts : goal.returns-in_err-counts
returns-in_err-counts c =
    let p = err_from_is_err_and c.from_residual.result c.from_residual.ensures.1 in
    let e = c.in_err-counts.ensures in
    rw (p.1, p.2) (not_well_formed e.0 e.1 (ap Err e.2))

pub returns : goal.returns
returns c = let a = c.in_ok-counts.ensures in found_answer _ _ a.pack a.is c.read_iri.result (c.read_iri.ensures a.pack a.is) c.ok_or.ensures.value
