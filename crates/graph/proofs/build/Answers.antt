-- `graph::build` meets its contract. Assumes nothing.
use borrow.Author.Rules.{rules}
use lib.Dec.{T}
use mathlib.Core.Path.{refl, sym, subst}
use Rattle.graph.proofs.BuildLaws.{graph_written}
use Rattle.meaning.specs.NoGraph.{MixedKinds}
use Rattle.node_list.proofs.Order.{marked_nodes}
use Rattle.node_list.proofs.SetList.{sets_fit}
use Rattle.graph.proofs.build.Goals as goal

pub returns-then-mixed : goal.returns-then-mixed
returns-then-mixed c = let none = c.in_default.ensures in (
  refl,
  refl,
  λ P I. (
    none P I,
    (c.mixed.ensures P c.args.shapes c.args.core.now.triples.now I (c.invent.ensures P I)).0
        (subst T (sym c.if-mixed.true) tt),
  ),
)

pub list_nodes-n-requires : goal.list_nodes-n-requires
list_nodes-n-requires c = let k = c.args.core.now.fits in
    (c.requires.0, k.few, k.long, sets_fit c.node_sets-count.ensures, search rules, c.requires.2)

pub returns : goal.returns
returns c = λ P I ar.
    let none = c.in_default.ensures P I in
    let f = c.invent.ensures P I in
    let clean : ¬ MixedKinds P = λ m. subst T c.if-mixed.false ((c.mixed.ensures P c.args.shapes c.args.core.now.triples.now I f).1 m) in
    let sets = marked_nodes I f c.node_sets-count.ensures in
    let l = c.list_nodes-n.ensures.0 P c.args.shapes c.args.core.now.triples.now I ar sets clean in
    graph_written none clean l (c.list_triples-t.ensures P I sets clean l.in_order l.ordered)
