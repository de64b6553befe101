-- `matching::keys::add_head` meets its contract: the head is not open. Assumes nothing.
use Rattle.std.proofs.lemmas.Result.{err_from_is_err_and}
use Rattle.std.specs.Prelude.{Ok, Err}
use Rattle.matching.proofs.Grown.{grown_one}
use Rattle.matching.proofs.keys.add_head.Goals as goal

pub unreachable-requires : goal.unreachable-requires
unreachable-requires c =
    let h = c.in_default.ensures in
    absurd (c.requires.2 h.0 h.1 h.2)

pub returns-in_err-insert : goal.returns-in_err-insert
returns-in_err-insert c = let s = c.args.set.now in
    rw (err_from_is_err_and c.from_residual.result c.from_residual.ensures.1).1 (rw (← c.in-Some.ensures.1) (grown_one s.fits s.ascending (Err _) c.in_err-insert.ensures))

pub returns : goal.returns
returns c = let s = c.args.set.now in
    rw (← c.in-Some.ensures.1) (grown_one s.fits s.ascending (Ok _) c.in_ok-insert.ensures)
