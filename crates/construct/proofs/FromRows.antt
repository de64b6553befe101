-- The heads of a pack that numbers hold. Assumes nothing.
use Rattle.std.proofs.Common.{ℕ, List}
use Rattle.construct.specs.Steps.{HeadsOf}
use Rattle.meaning.specs.Pack.{Pack}
use Rattle.names.specs.PackGiven.{Resolved}
use Rattle.rule_heads.specs.Answer.{HeadsFound}
use Rattle.rule_heads.specs.declared.AllHeads.{AllHeads}

pub heads_of : {P : Pack} {counts numbers rows : List ℕ} → Resolved P counts numbers rows → {a : AllHeads} {heads : List ℕ} → HeadsFound P a heads → HeadsOf P counts numbers a heads
heads_of g f = record { given = g.given.setting; resolved = g.resolved; found = f }
