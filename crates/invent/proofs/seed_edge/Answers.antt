-- `invent::seed_edge` meets its contract. Assumes nothing.
use Rattle.spread.specs.Keys.{origin_at}
use Rattle.core_lists.proofs.Origin.{origin_none, origin_some}
use Rattle.invent.proofs.Marks.{edge_missing, edge_there}
use Rattle.invent.proofs.seed_edge.Goals as goal

pub returns-then-at-from : goal.returns-then-at-from
returns-then-at-from c = let m = c.after-at in
    let a = c.args in (
      λ mask. edge_missing (origin_none a.core.now.triples.now (origin_at a.subject a.p) a.from m.result c.requires.2 m.ensures c.if-at-from.true)
          (c.mark_targets.ensures mask a.p),
      m.ensures,
    )

pub returns-else-at-from : goal.returns-else-at-from
returns-else-at-from c = let m = c.after-at in
    let a = c.args in (
      λ mask. edge_there c.requires.3 (origin_some a.core.now.triples.now (origin_at a.subject a.p) a.from m.result c.requires.2 m.ensures c.if-at-from.false),
      m.ensures,
    )
