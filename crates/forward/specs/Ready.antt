-- What a walk over named nodes is given. Assumes nothing.
use Rattle.std.specs.Prelude.{List, ℕ, ◌≤◌}
use Rattle.meaning.specs.Limits.{max_core_nodes}
use Rattle.forward.specs.declared.Named.{Named}
use Rattle.forward.specs.Own.{Inward, OwnBySubject}
use Rattle.states.specs.Fits.{ListsFit}
use Rattle.states.specs.Lists.{Lists}
use Rattle.states.specs.Living.{Living}

-- The lists, the triples that end at named nodes, and which states are alive.
pub record WalkReady (L : Lists) (named : ℕ) (own index alive : List ℕ) : Type 0 where
  pub fits : ListsFit L
  pub nodes : named ≤ L.nodes
  pub few : named ≤ max_core_nodes
  pub inward : Inward L.triples L.edges named
  pub listed : OwnBySubject L.triples L.edges named own index
  pub living : Living L alive

-- The same of what the code is given.
abbrev pub ReadyFor : Lists → Named → Type 0
ReadyFor L named = WalkReady L named.count named.own.now named.index.now named.alive.now
