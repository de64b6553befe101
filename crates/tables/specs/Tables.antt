-- The tables that building takes of a setting's numbers. Assumes nothing.
use Rattle.std.specs.Prelude.{◌≡◌, ℕ, ◌+◌, ◌*◌, false, cond, List, [], ◌==◌, slice_index_or, slice_set}
use Rattle.std.proofs.Math.ListN.{get_elem?}
use Rattle.std.proofs.Math.Option.{some}
use Rattle.meaning.specs.Limits.{literal_bit, literal_target, multiplicity_room}
use Rattle.meaning.specs.Pack.{Pack, Rule}
use Rattle.meaning.specs.Tables.{cell_at, head_numbers}
use Rattle.meaning.specs.WellFormed.{dangling}
use Rattle.names.specs.PackGiven.{SettingGiven}

-- They are numbers of some pack's setting, and each names a record that is there.
pub record IsResolvedSetting (counts numbers : List ℕ) : Type 0 where
  pub pack : Pack
  pub given : SettingGiven pack counts numbers
  pub resolved : dangling pack ≡ false

-- ---- shapes

-- the cell of a shape's third and fourth number
abbrev pub code_of : ℕ → ℕ → ℕ
code_of target multiplicity = cond (target == literal_target) literal_bit target * multiplicity_room + multiplicity

-- v where the cell is empty
abbrev pub put_first : ℕ → ℕ → ℕ → List (List ℕ) → List (List ℕ)
put_first t p v table = cond (cell_at table t p == 0) (slice_set table t (slice_set (slice_index_or table t []) p v)) table

-- ---- heads, six numbers each

pub record HeadTable (P : Pack) (rules : List (List ℕ)) : Type 0 where
  pub numbers : (r : ℕ) (rule : Rule) → get_elem? P.setting.rules r ≡ some rule → slice_index_or rules r [] ≡ head_numbers rule.head
