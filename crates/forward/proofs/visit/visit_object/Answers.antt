-- `forward::visit::visit_object` meets its contract. Assumes nothing.
use mathlib.Core.Path.{sym, ◌∙◌}
use Rattle.forward.proofs.Forward.{marked_state, object_one}
use Rattle.forward.proofs.SeenNumbers.{mark_room}
use Rattle.forward.proofs.visit.visit_object.Goals as goal

pub returns-then-takes_predicate : goal.returns-then-takes_predicate
returns-then-takes_predicate c = let pre = c.requires in
    object_one (sym c.takes_predicate.ensures ∙ c.if-takes_predicate.true)
    (marked_state c.args.leaf.to _ (c.mark.ensures _ (mark_room c.args.leaf.to _ pre.1 pre.0.2) pre.2))
