-- `answers::joined_pairs` meets its contract. Assumes nothing.
use native.Mathlib.Omega.{arith}
use Rattle.forward.proofs.Owning.{own_ready}
use Rattle.worklist.proofs.Stack.{stacked_fewer}
use Rattle.answers.proofs.Lists.{list_ready}
use Rattle.answers.proofs.joined_pairs.Goals as goal

pub list_by_object-requires : goal.list_by_object-requires
list_by_object-requires c = let p = c.requires.0 in ((p.fits.graph, p.predicates), list_ready p.fits.graph)

pub mark_alive-requires : goal.mark_alive-requires
mark_alive-requires c = ((c.requires.0.fits, c.list_by_object.ensures), c.requires.0.blank)

pub own_by_subject-requires : goal.own_by_subject-requires
own_by_subject-requires c = let p = c.requires.1 in
    (_, own_ready c.requires.0.fits.graph p.by_subject p.nodes (omega (arith, c.requires.0.fits.graph.few_edges, c.list_by_object.auto.into)))

pub list_pairs-requires : goal.list_pairs-requires
list_pairs-requires c = let p = c.requires.1 in (
  record {
    fits = c.requires.0.fits;
    nodes = p.nodes;
    few = p.few;
    inward = p.inward;
    listed = c.own_by_subject.ensures _
        (own_ready c.requires.0.fits.graph p.by_subject p.nodes (omega (arith, c.requires.0.fits.graph.few_edges, c.list_by_object.auto.into)));
    living = c.mark_alive.ensures.0;
  },
  (record { long = p.unseen.long; none = p.unseen.none; empty = stacked_fewer (omega arith) c.mark_alive.ensures.1 }, c.mark_alive.ensures.2),
  p.room,
)

pub returns : goal.returns
returns c = (c.list_pairs.ensures.0, record { is = c.mark_alive.ensures.3.is })
