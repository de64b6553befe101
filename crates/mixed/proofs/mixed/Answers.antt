-- `mixed::mixed` meets its contract. Assumes nothing.
use lib.Dec.{T}
use mathlib.Core.Path.{sym, subst}
use Rattle.mixed.proofs.MixedLaws.{mixed_rest, mixed_yes}
use Rattle.mixed.proofs.mixed.Goals as goal

pub returns-then-mixed_core : goal.returns-then-mixed_core
returns-then-mixed_core c = λ P table triples I f. rw c.if-mixed_core.true (mixed_yes I _ f (c.mixed_core.ensures.0 (subst T (sym c.if-mixed_core.true) tt)))

pub returns-else-mixed_core : goal.returns-else-mixed_core
returns-else-mixed_core c = λ P table triples I f. mixed_rest I _ f c.mixed_sets.result (λ m. subst T c.if-mixed_core.false (c.mixed_core.ensures.1 m))
    c.mixed_sets.ensures
