-- Refusal 4 as it was before card 14: at most 8 types and 96 shapes. Assumes nothing.
use Rattle.std.specs.Prelude.{length, List, ◌≡◌, ℕ, ◌≤◌}
use Rattle.std.proofs.Math.Option.{some}
use Rattle.meaning.specs.Limits.{shapes_body, types_body}
use Rattle.meaning.specs.Pack.{ShapeRecord, Text}
use Rattle.pack.specs.Checked.{Checked, five_to_eight, check_within}
use Rattle.pack.specs.Contents.{body_of}
use Rattle.pack.specs.Records.{name, shape}
use Rattle.pack.specs.Unpack.{read_all}

abbrev pub types_before : ℕ
types_before = 8

abbrev pub shapes_before : ℕ
shapes_before = 96

-- the first refusal of 3 to 8, as it was
abbrev pub first_refusal_before : List ℕ → Checked
first_refusal_before = check_within types_before shapes_before five_to_eight

-- The bytes have no more types and shapes than a pack had, where these bodies are whole records.
pub record FewBefore (s : List ℕ) : Type 0 where
  pub types : (ts : List Text) → read_all name (body_of s types_body) ≡ some ts → length ts ≤ types_before
  pub shapes : (ss : List ShapeRecord) → read_all shape (body_of s shapes_body) ≡ some ss → length ss ≤ shapes_before
