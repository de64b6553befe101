-- The keys of the heads of all rules of a pack. Assumes nothing.
use Rattle.std.specs.Prelude.{ℕ, ◌<◌, ◌≤◌, Result, Ok, Err, List, slice_index}
use Rattle.core_graph.specs.Heads.{HeadsHeld}
use Rattle.meaning.specs.Limits.{max_heads, max_rules}
use Rattle.meaning.specs.NoGraph.{TooLarge}
use Rattle.meaning.specs.Pack.{Pack}
use Rattle.tables.specs.Tables.{HeadTable}
use Rattle.rule_heads.specs.declared.AllHeads.{AllHeads}
use Rattle.sets.specs.declared.ordered.Full.{Full}

-- with the table of their heads they are held
pub record HeadsFound (P : Pack) (a : AllHeads) (heads : List ℕ) : Type 0 where
  pub few : a.count ≤ max_rules
  pub short : (r : ℕ) → r < a.count → slice_index a.counts r ≤ max_heads
  pub held : (rules : List (List ℕ)) → HeadTable P rules → HeadsHeld P rules a.count heads a.counts

-- or the core is too large (refusal 9)
abbrev pub FoundOr : Result AllHeads Full → Pack → List ℕ → Type 0
FoundOr (Ok a) P heads = HeadsFound P a heads
FoundOr (Err _) P heads = TooLarge P
