use Rattle.std.specs.Prelude.{◌≤◌}
use Rattle.core_graph.specs.Collected.{HeadType}
use Rattle.core_graph.proofs.Marking.{RulesMarked}
use Rattle.core_graph.proofs.typing.mark_rules.Given as goal

abbrev pub invariant-loop-r : goal.invariant-loop-r
invariant-loop-r l = (l.r ≤ l.heads.count)
    × RulesMarked (HeadType l.nodes) l.heads.rules.now l.heads.keys.now l.heads.counts.now l.r l.initial.masks l.masks
