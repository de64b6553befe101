-- What the functions that write a record's numbers say. Assumes nothing.
use Rattle.std.specs.Prelude.{length, replicate, take, ◌≡◌, ℕ, ◌+◌, ◌≤◌, Option, Some, None}
use Rattle.std.proofs.Math.Seq.{slice}
use mathlib.Core.List.{List, ◌∷◌, ◌++◌, flat_map}
use Rattle.meaning.specs.Limits.{atoms_length, max_head_variables, max_pack_bytes, max_value_bytes}
use Rattle.meaning.specs.Overwritten.{overwritten}
use Rattle.meaning.specs.Pack.{Atom, Head}
use Rattle.meaning.specs.Tables.{atom_numbers, head_arguments, head_numbers, rule_numbers}
use Rattle.pack.specs.Kinds.{RecordOf, reader_of}
use Rattle.pack.specs.Records.{atoms}
use Rattle.pack.specs.Shown.{Got, Not, head_at}
use Rattle.pack.specs.declared.cursor.Cursor.{Cursor}
use Rattle.pack.specs.declared.cursor.Rule.{Rule}
use Rattle.pack.specs.declared.cursor.Text.{Text}
use Rattle.pack.specs.declared.kinds.Kind.{Kind}
use Rattle.records.specs.PackHeld.{width}
use Rattle.records.specs.Numbers.{NumbersOf}

-- out' is out with the numbers from a place on
pub record Put (numbers : List ℕ) (at : ℕ) (out out' : List ℕ) : Type 0 where
  pub is : out' ≡ overwritten at numbers out

-- The record at c was read: its numbers stand from a place on, and d is past it.
pub record RecordKept (k : Kind) (c : Cursor) (at : ℕ) (out out' : List ℕ) (d : Cursor) : Type 0 where
  pub it : RecordOf k
  pub got : Got (reader_of k) c it d
  pub numbers : List ℕ
  pub are : NumbersOf k c.bytes.now it numbers
  pub many : length numbers ≡ width k
  pub put : Put numbers at out out'

abbrev pub KeptShown : (k : Kind) → Cursor → ℕ → List ℕ → List ℕ → Option Cursor → Type 0
KeptShown k c at out out' (Some d) = RecordKept k c at out out' d
KeptShown k c at out out' None = Not (reader_of k) c

-- ---- the places of what was read

-- The same text of this length stands at r.
pub record SamePlace (t : Text) (r : ℕ) : Type 0 where
  pub same : (s : List ℕ) → slice r (r + t.len) s ≡ slice t.start (t.start + t.len) s
  pub within : r ≤ t.start

-- a place and a length that 16 bits have room for, but for the place of an empty text
abbrev pub PlaceFits : Text → Type 0
PlaceFits t = (t.start + t.len ≤ max_pack_bytes) × (t.len ≤ max_value_bytes)

-- It holds of the n atoms at a cursor, where they are whole.
abbrev pub ForAtomsAt : Cursor → ℕ → (List Atom → Type 0) → Type 0
ForAtomsAt c n Q = (as' : List Atom) (d : Cursor) → Got (atoms n) c as' d → Q as'

-- The numbers of the rule stand from a place on.
abbrev pub RulePut : Rule → ℕ → List ℕ → List ℕ → Type 0
RulePut r at out out' = ForAtomsAt r.first r.count (λ as'. Put (rule_numbers (record { atoms = as'; head = head_at r.head })) at out out')

-- ---- the parts of a rule

-- how many atoms, these
unfoldable pub atoms_part : List Atom → List ℕ
atoms_part as' = length as' ∷ take atoms_length (flat_map atom_numbers as' ++ replicate atoms_length 0)

-- how many variables its head has, these; its head
unfoldable pub head_part : Head → List ℕ
head_part h = length (head_arguments h) ∷ take max_head_variables (head_arguments h ++ replicate max_head_variables 0) ++ head_numbers h
