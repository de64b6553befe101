-- What the check of a pack answers: its first refusal of 3 to 7; where there is none, the numbers hold the pack. Assumes nothing.
use Rattle.std.specs.Prelude.{List, Result, Ok, Err, ◌≡◌, ℕ}
use Rattle.meaning.specs.Refusals.{refusal_of}
use Rattle.meaning.specs.declared.refusal.Refusal.{Refusal}
use Rattle.records.specs.PackHeld.{PackHeld, SettingHeld}
use Rattle.meaning.specs.Pack.{Pack}
use Rattle.names.specs.PackGiven.{PackGiven, SettingGiven}
use Rattle.pack.specs.Checked.{accepted, refused, well_formed}
use Rattle.records.specs.declared.setting.LoadedSetting.{LoadedSetting}

-- "A pack is well formed when none of 3 to 7 is true of it": the numbers are this one's.
pub record Accepted (s counts numbers rows : List ℕ) : Type 0 where
  pub pack : Pack
  pub is : well_formed s ≡ accepted pack
  pub held : PackHeld s pack counts numbers rows
  pub given : PackGiven pack counts numbers rows

-- accepted, or the first refusal, by its number
abbrev pub CheckedAs : List ℕ → Result (List ℕ) Refusal → List ℕ → List ℕ → Type 0
CheckedAs s (Ok counts) numbers rows = Accepted s counts numbers rows
CheckedAs s (Err e) numbers rows = (k : ℕ) × (well_formed s ≡ refused k) × (e ≡ refusal_of k)

-- The bytes are a well-formed pack, and the numbers are those of its setting: what is read of its texts, and of its names.
pub record SettingLoaded (s counts numbers : List ℕ) : Type 0 where
  pub pack : Pack
  pub is : well_formed s ≡ accepted pack
  pub held : SettingHeld s pack.setting counts numbers
  pub given : SettingGiven pack counts numbers

-- The same of a setting as it is loaded.
abbrev pub LoadedFrom : List ℕ → LoadedSetting → Type 0
LoadedFrom s l = SettingLoaded s l.counts l.numbers.now
