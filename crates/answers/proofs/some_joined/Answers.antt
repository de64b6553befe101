-- `answers::some_joined` meets its contract. Assumes nothing.
use native.Mathlib.Omega.{arith}
use Rattle.alive.proofs.Growing.{some_yes}
use Rattle.answers.proofs.Lists.{list_ready}
use Rattle.answers.proofs.some_joined.Goals as goal

pub list_by_object-requires : goal.list_by_object-requires
list_by_object-requires c = let p = c.requires in ((p.fits.graph, p.predicates), list_ready p.fits.graph)

pub mark_alive-requires : goal.mark_alive-requires
mark_alive-requires c = ((c.requires.fits, c.list_by_object.ensures), c.requires.blank)

pub some_alive-requires : goal.some_alive-requires
some_alive-requires c = let p = c.requires.fits in
    ((omega (arith, p.graph.few_nodes), (p.query.some, p.query.few)), c.mark_alive.ensures.0.long)

pub returns : goal.returns
returns c = (
  some_yes c.requires.fits.query.some c.mark_alive.ensures.0 c.some_alive.result c.some_alive.ensures,
  record { is = c.mark_alive.ensures.3.is },
)
