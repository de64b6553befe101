-- One rule over the rows: how code holds it, and the set of its heads' keys. Assumes nothing.
use Rattle.std.specs.Prelude.{Result, Ok, Err, length, take, ◌≡◌, ℕ, ◌*◌, ◌≤◌, ◌<◌}
use mathlib.Core.List.{List, flat_map, map}
use Rattle.meaning.specs.Core.{Assignment, Matches}
use Rattle.meaning.specs.Limits.{atom_width, max_atoms, max_columns, max_head_variables, max_rows, max_values, max_variables}
use Rattle.meaning.specs.Member.{◌∈◌}
use Rattle.meaning.specs.Ordered.{ListOf, Over as OverSet}
use Rattle.meaning.specs.Pack.{Row, Atom}
use Rattle.meaning.specs.Tables.{RowsHeld, atom_numbers, packed}
use Rattle.sets.specs.declared.ordered.Full.{Full}

-- ---- atoms (`atom_numbers`)

-- The first numbers are those of the atoms, one after another.
pub record AtomsHeld (atoms : List Atom) (numbers : List ℕ) : Type 0 where
  pub are : take (length atoms * atom_width) numbers ≡ flat_map atom_numbers atoms

-- ---- the heads

-- "each rule's head for every match of its atoms": the values of a head's variables, in argument order, as one number.
pub record HeadKey (rows : List Row) (atoms : List Atom) (vars : List ℕ) (k : ℕ) : Type 0 where
  pub values : Assignment
  pub matches : Matches rows values atoms
  pub is : k ≡ packed (map values vars)

-- The numbers hold these rows, atoms and head variables, of which refusals 4 and 7 leave this to be true.
pub record RuleHeld (rows : List Row) (atoms : List Atom) (vars : List ℕ) (row_numbers atom_numbers : List ℕ) (atomCount : ℕ) (varNumbers : List ℕ) (varCount : ℕ) : Type 0 where
  pub rows_held : RowsHeld rows row_numbers
  pub atoms_held : AtomsHeld atoms atom_numbers
  pub atoms_counted : atomCount ≡ length atoms
  pub vars_held : take varCount varNumbers ≡ vars
  pub vars_counted : varCount ≤ max_head_variables
  pub few_rows : length rows ≤ max_rows
  pub few_atoms : length atoms ≤ max_atoms
  pub short : (a : Atom) → a ∈ atoms → length a.variables ≤ max_columns
  pub variables : (a : Atom) → a ∈ atoms → (v : ℕ) → v ∈ a.variables → v < max_variables
  pub values : (r : Row) → r ∈ rows → (x : ℕ) → x ∈ r.cells → x < max_values
  pub arities : (r : Row) → r ∈ rows → (a : Atom) → a ∈ atoms → r.relation ≡ a.relation → length r.cells ≡ length a.variables
  pub bound : (v : ℕ) → v ∈ vars → (a : Atom) × (a ∈ atoms) × (v ∈ a.variables)

-- There are such rows, atoms and head variables.
pub record RuleGiven (row_numbers atom_numbers : List ℕ) (atomCount : ℕ) (varNumbers : List ℕ) (varCount : ℕ) : Type 0 where
  pub rows : List Row
  pub atoms : List Atom
  pub vars : List ℕ
  pub held : RuleHeld rows atoms vars row_numbers atom_numbers atomCount varNumbers varCount

-- What is answered of a set of keys: its list stands at the front of the slice, or more keys than the slice holds are in it.
abbrev pub ListedOrOver : Result ℕ Full → List ℕ → (ℕ → Type 0) → Type 0
ListedOrOver (Ok n) keys Q = (n ≤ length keys) × ListOf ◌<◌ Q (take n keys)
ListedOrOver (Err _) keys Q = OverSet (length keys) Q

-- The answer about a rule, whatever rows, atoms and head variables the numbers hold.
abbrev pub RuleHeads : Result ℕ Full → List ℕ → List ℕ → ℕ → List ℕ → ℕ → List ℕ → Type 0
RuleHeads r row_numbers atom_numbers atomCount varNumbers varCount keys =
    (rows : List Row) (atoms : List Atom) (vars : List ℕ) → RuleHeld rows atoms vars row_numbers atom_numbers atomCount varNumbers varCount → ListedOrOver r keys (HeadKey rows atoms vars)
