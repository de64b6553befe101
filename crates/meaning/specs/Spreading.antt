-- The type facts that spreading adds, and how many rounds it may take (document 02, card 4). Assumes nothing.
use Rattle.std.specs.Prelude.{ℕ, ◌+◌, ◌≤◌}
use Rattle.meaning.specs.Core.{CoreType, Given, Node, typed}
use Rattle.meaning.specs.Ordered.{Number}
use Rattle.meaning.specs.Pack.{Pack, Target}

-- "the type facts that spreading added": a node and a member, Literal included, that the core has and no head gives
pub record SpreadFact (P : Pack) (f : Node × Target) : Type 0 where
  pub has : CoreType P f.0 f.1
  pub not_given : ¬ Given P (typed f.0 f.1)

-- "the rounds made are at most one more than the type facts that spreading added"; at least one is made
pub record FewRounds {A : Type 0} (Added : A → Type 0) (rounds : ℕ) : Type 0 where
  pub added : ℕ
  pub number : Number Added added
  pub some : 1 ≤ rounds
  pub few : rounds ≤ added + 1
