-- The first refusal of 3 to 8 (document 01, "Refused, in checking order"). Assumes nothing.
use Rattle.std.specs.Prelude.{Bool, true, false, List, [], ◌∷◌, ◌≡◌, ℕ}
use Rattle.std.proofs.Math.Option.{Option, none, some}
use Rattle.meaning.specs.Limits.{max_shapes, max_types}
use Rattle.meaning.specs.Pack.{Pack}
use Rattle.meaning.specs.WellFormed.{duplicates, prefix_clash, dangling, broken}
use Rattle.pack.specs.Contents.{bad_size}
use Rattle.pack.specs.Unpack.{unpack_within}

pub data Checked : Type 0 where
  refused : ℕ → Checked
  accepted : Pack → Checked

-- A refusal's number, and what it is true of.
abbrev pub Refusal : Type 0
Refusal = ℕ × (Pack → Bool)

-- the number of the first one that is true
unfoldable pub first_true : List Refusal → Pack → Checked
first_true [] P = accepted P
first_true (r ∷ rs) P = elim (r.1 P) [ true ↦ refused r.0 | false ↦ first_true rs P ]

unfoldable pub on_pack : List Refusal → Option Pack → Checked
on_pack rs none = refused 4
on_pack rs (some P) = first_true rs P

-- 3, 4, then those of the list; 4 by the limits of types and of shapes
unfoldable pub check_within : ℕ → ℕ → List Refusal → List ℕ → Checked
check_within types shapes rs s = elim (bad_size s) [ true ↦ refused 3 | false ↦ on_pack rs (unpack_within types shapes s) ]

abbrev pub check_by : List Refusal → List ℕ → Checked
check_by = check_within max_types max_shapes

-- "A pack is well formed when none of 3 to 7 is true of it"
unfoldable pub well_formed : List ℕ → Checked
well_formed = check_by ((5, duplicates) ∷ (6, prefix_clash) ∷ (7, dangling) ∷ [])

abbrev pub five_to_eight : List Refusal
five_to_eight = (5, duplicates) ∷ (6, prefix_clash) ∷ (7, dangling) ∷ (8, broken) ∷ []

-- "and keeps its dependencies when 8 is not."
unfoldable pub first_refusal : List ℕ → Checked
first_refusal = check_by five_to_eight

-- "A refusal gives its number"; 0 where there is none.
abbrev pub number_of : Checked → ℕ
number_of (refused n) = n
number_of (accepted P) = 0

-- What holds of the pack that the bytes are, where they are a well-formed one.
abbrev pub OfPack : List ℕ → (Pack → Type 0) → Type 0
OfPack s Q = (P : Pack) → well_formed s ≡ accepted P → Q P
