-- `yes_no::answer` meets its contract. Assumes nothing.
use native.Mathlib.Omega.{arith}
use Rattle.std.proofs.Common.{rules}
use Rattle.std.proofs.lemmas.Result.{err_from_is_err_and}
use Rattle.evaluate.proofs.Started.{cleared}
use Rattle.yes_no.proofs.FromPrepared.{answered, ready, refused}
use Rattle.yes_no.proofs.answer.Goals as goal

pub returns-in_err-prepared : goal.returns-in_err-prepared
returns-in_err-prepared c =
    let p = err_from_is_err_and c.from_residual.result c.from_residual.ensures.1 in
    rw (p.1, p.2) (refused _ _ _ _ c.in_err-prepared.ensures.0)

-- what is prepared is ready for the evaluation
pub yes-yes-requires : goal.yes-yes-requires
yes-yes-requires c =
    let p = c.in_ok-prepared.ensures in
    let (nodes, (triples, (_, (_, (_, (alive, (waiting, (stack, _)))))))) = c.requires in (
      record { pack = _; query = _; ready = ready _ _ _ _ p.0 (omega arith) (omega arith) p.1 (omega arith) },
      cleared c.args.alive.now c.args.waiting.now (search rules) (search rules) alive waiting stack,
    )

pub returns : goal.returns
returns c =
    let p = c.in_ok-prepared.ensures in
    let (nodes, (triples, _)) = c.requires in
    let r = ready _ _ _ _ p.0 (omega arith) (omega arith) p.1 (omega arith) in
    let g = r.graph.graph in
    answered _ _ _ _ p.0 g.node_room g.triple_room c.yes-yes.result (c.yes-yes.ensures _ _ r)
