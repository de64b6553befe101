-- `triple_list::Source::list_set` meets its contract. Assumes nothing.
use native.Mathlib.Omega.{arith}
use Rattle.spread.specs.Keys.{origin_at}
use Rattle.triple_list.proofs.EdgeLaws.{node_none, node_some, none_of}
use Rattle.core_lists.proofs.Origin.{keys_le}
use Rattle.meaning.specs.Limits.{max_predicates}
use Rattle.triple_list.proofs.Source.list_set.Goals as goal

pub returns-then-types-eq0 : goal.returns-then-types-eq0
returns-then-types-eq0 c = node_none _ c.if-types-eq0.true

pub list_subject-next-requires : goal.list_subject-next-requires
list_subject-next-requires c = let a = c.args in (
  c.requires.1,
  none_of a.self.now.core.triples.now a.node (λ k m. omega (arith, a.self.now.core.fits.subject k m, c.requires.0)),
  omega (arith, c.requires.2, keys_le (origin_at a.node max_predicates) a.self.now.core.triples.now),
  c.requires.3,
)

pub returns : goal.returns
returns c = let if1 = c.if-types-eq0 in
    let a = c.args in
    let m = c.list_subject-next.ensures in
    (node_some (omega (arith, if1.false)) m.0, omega (arith, m.1, m.2, keys_le (origin_at a.node max_predicates) a.self.now.core.triples.now, if1.false))
