-- `pairs::answer` meets its contract. Assumes nothing.
use Rattle.std.proofs.Common.{arith}
use Rattle.std.proofs.lemmas.Result.{err_from_is_err_and}
use Rattle.evaluate.specs.Answered.{Ready}
use Rattle.pairs.proofs.FromPrepared.{indexed, ready, refused}
use Rattle.pairs.proofs.answer.Goals as goal
use Rattle.pairs.proofs.answer.Goals.{In_ok-prepared}

-- what is prepared is ready for the evaluation
readied : (c : In_ok-prepared) → let p = c.in_ok-prepared.prepared in let n = c.prepare.new in
    Ready c.args.pack.now c.args.query.now n.tree p.parts n.wanted n.nodes p.size.nodes n.triples p.size.triples
readied c =
    let a = c.prepare.auto in
    let (_, (_, (_, (_, (_, (_, (_, (_, (_, (_, (own_nodes, (own_triples, _)))))))))))) = c.requires in
    let p = c.in_ok-prepared.ensures in
    ready _ _ _ _ p.0 (omega (arith, a.nodes)) (omega (arith, a.triples)) p.1 (omega (arith, a.wanted))

pub returns-in_err-prepared : goal.returns-in_err-prepared
returns-in_err-prepared c =
    let p = err_from_is_err_and c.from_residual.result c.from_residual.ensures.1 in
    rw (p.1, p.2) (refused _ _ _ _ c.in_err-prepared.ensures.0)

pub in_lists-requires : goal.in_lists-requires
in_lists-requires c =
    let a = c.prepare.auto in
    let (nodes, (triples, (index, (pairs, (_, (_, (alive, (waiting, (stack, (seen, (own_nodes, (own_triples, (own_index, _))))))))))))) = c.requires in (
      record {
        ready = record { pack = _; query = _; ready = readied (goal.at.in_lists-requires c).In_ok-prepared };
        indexed = indexed _ _ _ _ c.in_ok-prepared.ensures.0 (omega (arith, a.nodes)) (omega (arith, a.triples)) (omega (arith, a.index));
      },
      (nodes, (triples, (index, (pairs, tt)))),
      (alive, waiting, stack, seen),
    )

pub returns : goal.returns
returns c = c.in_lists.ensures _ _ (readied (goal.at.returns c).In_ok-prepared)
