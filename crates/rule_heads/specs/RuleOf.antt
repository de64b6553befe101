-- A rule of a pack that numbers hold, and its rows: what matching takes. Assumes nothing.
use Rattle.std.specs.Prelude.{◌≡◌, ℕ, ◌+◌, ◌<◌, ◌≤◌, false, List, length, slice_index}
use Rattle.matching.specs.Rule.{HeadKey}
use Rattle.meaning.specs.Member.{◌∈◌}
use Rattle.meaning.specs.Pack.{Pack, Rule}
use Rattle.meaning.specs.Tables.{RowsHeld, head_arguments}
use Rattle.meaning.specs.WellFormed.{dangling}
use Rattle.names.specs.PackGiven.{Bounds}
use Rattle.names.specs.Rule.{RuleAt}

-- so many numbers from a place on fit eight bits
pub record Bytes (numbers : List ℕ) (at many : ℕ) : Type 0 where
  pub room : at + many ≤ length numbers
  pub each : (i : ℕ) → i < many → slice_index numbers (at + i) < 256

-- ---- a rule at a place, of a pack of which refusal 7 is false

pub record RuleOf (P : Pack) (r : Rule) (numbers : List ℕ) (at : ℕ) (rows : List ℕ) : Type 0 where
  pub is : RuleAt r numbers at
  pub listed : r ∈ P.setting.rules
  pub bounds : Bounds P
  pub resolved : dangling P ≡ false
  pub holds_rows : RowsHeld P.rows rows

pub record IsRuleOf (numbers : List ℕ) (at : ℕ) (rows : List ℕ) : Type 0 where
  pub pack : Pack
  pub rule : Rule
  pub given : RuleOf pack rule numbers at rows

abbrev pub ForRuleOf : List ℕ → ℕ → List ℕ → (Pack → Rule → Type 0) → Type 0
ForRuleOf numbers at rows Q = (P : Pack) (r : Rule) → RuleOf P r numbers at rows → Q P r

-- the keys of its heads
abbrev pub RuleKey : Pack → Rule → ℕ → Type 0
RuleKey P r = HeadKey P.rows r.atoms (head_arguments r.head)
