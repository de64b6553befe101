use Rattle.core_graph.specs.Collected.{HeadType}
use Rattle.core_graph.proofs.Marking.{KeysMarked}
use Rattle.core_graph.proofs.typing.mark_rule.Given as goal

abbrev pub invariant-loop-k : goal.invariant-loop-k
invariant-loop-k l = KeysMarked (HeadType l.nodes l.head) l.keys l.k-index l.initial.masks l.masks
