use lib.ListN.{drop}
use mathlib.Core.List.{map}
use Prim.Native.Nat.{◌+◌}
use Rattle.triple_list.specs.Triples.{edge_record}
use Rattle.meaning.proofs.Lists.Recording.{Records}
use Rattle.meaning.specs.Limits.{triple_width}
use Rattle.triple_list.proofs.list_edges.Given as goal

abbrev pub invariant-loop-i : goal.invariant-loop-i
invariant-loop-i l = Records triple_width l.first (l.first + l.i) (map (edge_record l.subject l.p) (drop l.i l.edges)) (map (edge_record l.subject l.p) l.edges) l.initial.out l.out
