-- `prepare::prepare` meets its contract. Assumes nothing.
use Rattle.std.proofs.Common.{◌≡◌, Some, subst, arith}
use Rattle.std.proofs.lemmas.Result.{err_from_is_err_and}
use Rattle.calls.specs.Call.{◌becomes◌}
use Rattle.query.specs.Answer.{Answered, HoldsQuery}
use Rattle.prepare.proofs.RefusedOrGraph.{built, refused_pack, roomy}
use Rattle.prepare.proofs.prepare.Goals as goal
use Rattle.prepare.proofs.prepare.Goals.{In_ok-parts}

-- the query that is read
held : (c : In_ok-parts) → HoldsQuery c.args.query.now c.read_query.new.tree c.in_ok-parts.parts
held c =
    let q : c.read_query.result ≡ Some c.in_ok-parts.parts = grind arith in
    subst (λ o. Answered o c.args.query.now c.read_query.new.tree) q c.read_query.ensures

-- 3 to 11
pub returns-in_err-loaded : goal.returns-in_err-loaded
returns-in_err-loaded c =
    let p = err_from_is_err_and c.from_residual-in_err-loaded.result c.from_residual-in_err-loaded.ensures.1 in
    rw (p.1, p.2) (refused_pack _ _ _ _ (held (goal.at.returns-in_err-loaded c).In_ok-parts) c.in_err-loaded.ensures.0, tt)

pub resolve-requires : goal.resolve-requires
resolve-requires c =
    let h = held (goal.at.resolve-requires c).In_ok-parts in
    let g = c.in_ok-loaded.ensures in (
      g.1,
      roomy c.read_query.new.tree (c.args.nodes.now becomes c.construct.new.nodes) _ _ h g.0 (omega arith),
      omega (arith, h.few, h.query.fits),
      omega (arith, h.few, h.query.fits),
    )

-- or the graph
pub returns : goal.returns
returns c = (built _ _ _ _ (held (goal.at.returns c).In_ok-parts) c.in_ok-loaded.ensures.0 (omega arith), c.resolve.ensures.found)
