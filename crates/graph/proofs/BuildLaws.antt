-- The two lists are those of the pack's graph. Assumes nothing.
use lib.ListN.{drop}
use mathlib.Core.List.{List, ◌++◌, flatten}
use mathlib.Core.Path.{refl, sym, ap, ◌∙◌}
use Prim.Native.Nat.{ℕ}
use Rattle.calls.specs.Call.{◌becomes◌}
use Rattle.graph.proofs.Fronts.{node_length, triple_length}
use Rattle.graph.specs.Build.{GraphWritten}
use Rattle.graph.specs.Fronts.{GraphListed}
use Rattle.node_list.specs.NodeList.{NodesListed}
use Rattle.triple_list.specs.Triples.{TriplesListed}
use Rattle.meaning.specs.NoGraph.{MixedKinds, TwoObjects}
use Rattle.meaning.specs.Pack.{Pack}

pub graph_written : {P : Pack} {n t : ℕ} {out out' edges edges' : List ℕ} → ¬ TwoObjects P → ¬ MixedKinds P → (l : NodesListed P out out' n)
    → TriplesListed P l.in_order edges edges' t → GraphWritten P n t (out becomes out') (edges becomes edges')
graph_written {P} {n} {t} {out} {out'} {edges} {edges'} not_10 not_11 l e = record {
  node_front = flatten l.records;
  triple_front = flatten e.records;
  graph = G;
  nodes_written = l.written ∙ ap (λ k. flatten l.records ++ drop k out) (sym (node_length G));
  triples_written = e.written ∙ ap (λ k. flatten e.records ++ drop k edges) (sym (triple_length G));
  not_10 = not_10;
  not_11 = not_11;
}
  where
    G : GraphListed P n t (flatten l.records) (flatten e.records)
    G = record {
      node_records_are = l.records;
      triple_records_are = e.records;
      lists = record { in_order = l.in_order; ordered = l.ordered; records = l.recorded; edges = e.edges };
      node_count = l.counted;
      triple_count = e.counted;
      few_nodes = l.few;
      few_triples = e.few;
      nodes_are = refl;
      triples_are = refl;
    }
