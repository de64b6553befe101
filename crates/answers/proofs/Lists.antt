-- The working lists by object, at the beginning. Assumes nothing.
use native.Mathlib.Omega.{arith}
use lib.ListN.{get_or-replicate, replicate}
use Prim.Native.Nat.{ℕ, ◌+◌}
use mathlib.Core.List.{List}
use Rattle.index.specs.Objects.{ListReady}
use Rattle.index.specs.Triples.{GraphFits}
use Rattle.meaning.specs.Limits.{max_nodes, max_triples}

pub list_ready : {nodes edges : ℕ} {triples : List ℕ} → GraphFits nodes edges triples → ListReady nodes edges (replicate (max_nodes + 2) 0) (replicate max_triples 0)
list_ready g = record {
  long = omega (arith, g.few_nodes);
  room = g.few_edges;
  none = λ o h. get_or-replicate (max_nodes + 2) o 0 0 (omega (arith, g.few_nodes));
}
