use Rattle.std.proofs.Common.{drop}
use Rattle.node_list.specs.Records.{core_records}
use Rattle.meaning.specs.Limits.{node_width}
use Rattle.meaning.proofs.Lists.Recording.{Records}
use Rattle.node_list.proofs.list_core.Given as goal

abbrev pub invariant-loop-i : goal.invariant-loop-i
invariant-loop-i l = Records node_width 0 l.i (core_records l.arities (drop l.i l.nodes) (drop l.i l.masks)) (core_records l.arities l.nodes l.masks) l.initial.out l.out
