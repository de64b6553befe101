-- The kinds of record (document 01, "The pack", 1 to 9), each as a reader. Assumes nothing.
use Rattle.std.specs.Prelude.{ltb, eqb, Bool, true, cond, ◌||◌, List, [], ◌∷◌, ℕ, zero, suc}
use Rattle.meaning.specs.Limits.{max_value_bytes, max_columns, max_name_bytes, literal_target, max_arguments, max_prefix_bytes, max_atoms, max_variables}
use Rattle.meaning.specs.Pack.{
  Text,
  Target,
  Literal,
  type,
  Multiplicity,
  one,
  optional,
  any_number,
  at_least_one,
  ShapeRecord,
  Row,
  Atom,
  Term,
  Head,
  has_type,
  links_to,
  links_to_value,
  Rule,
  Dependency,
  Constructor,
}
use Rattle.meaning.specs.Tests.{within, elem}
use Rattle.pack.specs.Readers.{Reader, give, only, ◌>>=◌, byte, byte_in, sized}

-- ---- bytes that a text may hold

abbrev pub any_byte : ℕ → Bool
any_byte b = true

-- "letters a to z"
abbrev pub letter : ℕ → Bool
letter b = within 97 122 b

-- "ASCII letters, digits and - . _ ~ : / #"
unfoldable pub prefix_byte : ℕ → Bool
prefix_byte b =
    letter b || within 65 90 b || within 48 57 b || elem b (45 ∷ 46 ∷ 95 ∷ 126 ∷ 58 ∷ 47 ∷ 35 ∷ [])

-- "variables 0 to 15"
abbrev pub variable : ℕ → Bool
variable b = ltb b max_variables

-- ---- 1. "Values: length 0 to 64, bytes."

unfoldable pub value : Reader Text
value = sized any_byte 0 max_value_bytes

-- ---- 2. "Relations: arity 1 to 8."

unfoldable pub relation : Reader ℕ
relation = byte_in 1 max_columns

-- ---- 3. "Dependencies: relation, left columns, right columns"

unfoldable pub dependency : Reader Dependency
dependency = do
  r ← byte
  x ← byte
  y ← byte
  give (record { relation = r; left = x; right = y })

-- ---- 4. "Types: length 1 to 16, letters a to z." 5. "Predicates: the same form."

unfoldable pub name : Reader Text
name = sized letter 1 max_name_bytes

-- ---- 6. "Shapes: type, predicate, target (a type, or 255 for Literal), multiplicity (1 one, 2 optional, 3 any number, 4 at least one)"

unfoldable pub target_of : ℕ → Target
target_of b = cond (eqb b literal_target) Literal (type b)

unfoldable pub multiplicity_of : ℕ → Multiplicity
multiplicity_of m = cond (eqb m 1) one (cond (eqb m 2) optional (cond (eqb m 3) any_number at_least_one))

unfoldable pub shape : Reader ShapeRecord
shape = do
  t ← byte
  p ← byte
  x ← byte
  m ← byte_in 1 4
  give (record { owner = t; predicate = p; shape = record { target = target_of x; multiplicity = multiplicity_of m } })

-- ---- 7. "Constructors: arity 1 to 4, length 1 to 32, prefix"

unfoldable pub constructor : Reader Constructor
constructor = do
  k ← byte_in 1 max_arguments
  p ← sized prefix_byte 1 max_prefix_bytes
  give (record { arity = k; prefix = p })

-- ---- 8. "Rules: atom count 1 to 3; each atom a relation, a count 1 to 8 and that many variables 0 to 15; then the head."

-- a number, a count from 1 to the bound, and that many bytes
unfoldable pub tuple : {A : Type 0} → (ℕ → List ℕ → A) → (ℕ → Bool) → ℕ → Reader A
tuple make ok most = do
  r ← byte
  xs ← sized ok 1 most
  give (make r xs)

abbrev pub atom_of : ℕ → List ℕ → Atom
atom_of r xs = record { relation = r; variables = xs }

unfoldable pub atom : Reader Atom
atom = tuple atom_of variable max_columns

unfoldable pub atoms : ℕ → Reader (List Atom)
atoms zero = give []
atoms (suc n) = do
  a ← atom
  as' ← atoms n
  give (a ∷ as')

-- "A term is a constructor, a count 1 to 4 and variables."
abbrev pub term_of : ℕ → List ℕ → Term
term_of c xs = record { constructor = c; variables = xs }

unfoldable pub term : Reader Term
term = tuple term_of variable max_arguments

-- "Head kind 0: term, type. Kind 1: term, predicate, term. Kind 2: term, predicate, variable."
unfoldable pub head_of : ℕ → Reader Head
head_of zero = do
  t ← term
  c ← byte
  give (has_type t c)
head_of (suc zero) = do
  t ← term
  p ← byte
  u ← term
  give (links_to t p u)
head_of (suc (suc k)) = do
  t ← term
  p ← byte
  v ← byte
  w ← only (variable v) v
  give (links_to_value t p w)

unfoldable pub rule : Reader Rule
rule = do
  n ← byte_in 1 max_atoms
  as' ← atoms n
  k ← byte_in 0 2
  h ← head_of k
  give (record { atoms = as'; head = h })

-- ---- 9. "Rows: relation, count 1 to 8, value numbers."

abbrev pub row_of : ℕ → List ℕ → Row
row_of r xs = record { relation = r; cells = xs }

unfoldable pub row : Reader Row
row = tuple row_of any_byte max_columns
