-- How code holds what it reads often: shapes as a table of cells; rows, type sets and lists of bytes as numbers. Assumes
-- nothing.
use Rattle.std.specs.Prelude.{leb, get_or, length, replicate, take, ◌≡◌, ℕ, ◌+◌, ◌*◌, ◌%◌, ◌<◌}
use mathlib.Core.List.{List, [], ◌∷◌, ◌++◌, flat_map, foldl}
use Rattle.std.proofs.Math.Option.{Option, none, some}
use Rattle.meaning.specs.Limits.{atoms_length, literal_bit, literal_weight, max_columns, max_head_variables, max_predicates, max_types, max_values, multiplicity_room, unused}
use Rattle.meaning.specs.Pack.{Atom, has_type, Head, links_to, links_to_value, Literal, multiplicity_number, Row, Rule, Setting, Shape, shape_of, Target, type}
use Rattle.meaning.specs.TypeSet.{TypeSet}

-- ---- "Shapes form a table of 8 types by 12 predicates", of 12 by 12 since card 14: target and multiplicity packed per cell

-- Literal counts as a type: in a pack that is not refused, every type's number is lower.
abbrev pub target_code : Target → ℕ
target_code Literal = literal_bit
target_code (type t) = t

abbrev pub cell_of : Option Shape → ℕ
cell_of none = 0
cell_of (some s) = target_code s.target * multiplicity_room + multiplicity_number s.multiplicity

abbrev pub cell_at : List (List ℕ) → ℕ → ℕ → ℕ
cell_at table t p = get_or (get_or table t []) p 0

pub record ShapeTable (S : Setting) (table : List (List ℕ)) : Type 0 where
  pub cells : (t p : ℕ) → t < max_types → p < max_predicates → cell_at table t p ≡ cell_of (shape_of S t p)

-- ---- a type set as one 16-bit number: weight 2 to the power t for type t, and Literal's weight above them

unfoldable pub set_of_mask : ℕ → TypeSet
set_of_mask m = record { literal = leb literal_weight m; mask = m % literal_weight }

-- ---- a row as nine numbers: its relation, then eight cells, 65,535 where unused

abbrev pub row_numbers : Row → List ℕ
row_numbers r = r.relation ∷ take max_columns (r.cells ++ replicate max_columns unused)

-- The numbers are those of the rows, one after another.
pub record RowsHeld (rows : List Row) (numbers : List ℕ) : Type 0 where
  pub are : numbers ≡ flat_map row_numbers rows

-- ---- value numbers as one number, the first of the highest weight; lists of one length have different numbers

unfoldable pub packed : List ℕ → ℕ
packed = foldl (λ k v. k * max_values + v) 0

-- ---- a rule as numbers: how many atoms, these; how many variables its head has, these; its head. 0 in places unused

-- its relation, how many variables, these
abbrev pub atom_numbers : Atom → List ℕ
atom_numbers a = a.relation ∷ length a.variables ∷ take max_columns (a.variables ++ replicate max_columns 0)

-- kind; the subject's constructor and its argument count; the type or the predicate; the object's constructor and its
-- argument count (a value counts as one argument)
unfoldable pub head_numbers : Head → List ℕ
head_numbers (has_type s t) = 0 ∷ s.constructor ∷ length s.variables ∷ t ∷ 0 ∷ 0 ∷ []
head_numbers (links_to s p o) = 1 ∷ s.constructor ∷ length s.variables ∷ p ∷ o.constructor ∷ length o.variables ∷ []
head_numbers (links_to_value s p v) = 2 ∷ s.constructor ∷ length s.variables ∷ p ∷ 0 ∷ 1 ∷ []

-- its variables in argument order, the subject's before the object's
unfoldable pub head_arguments : Head → List ℕ
head_arguments (has_type s t) = s.variables
head_arguments (links_to s p o) = s.variables ++ o.variables
head_arguments (links_to_value s p v) = s.variables ++ v ∷ []

unfoldable pub rule_numbers : Rule → List ℕ
unfolding head_arguments head_numbers
rule_numbers r =
    length r.atoms ∷ take atoms_length (flat_map atom_numbers r.atoms ++ replicate atoms_length 0)
    ++ length (head_arguments r.head) ∷ take max_head_variables (head_arguments r.head ++ replicate max_head_variables 0)
    ++ head_numbers r.head
