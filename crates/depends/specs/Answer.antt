-- Refusal 8 of the dependencies and rows that numbers hold. Assumes nothing.
use Rattle.std.specs.Prelude.{length, Bool, List, [], ◌≡◌, ℕ, ◌*◌, ◌≤◌, ◌<◌}
use Rattle.records.specs.PackHeld.{BodyHeld}
use Rattle.meaning.specs.Limits.{dependency_width, max_columns, max_values}
use Rattle.meaning.specs.Member.{◌∈◌}
use Rattle.meaning.specs.Pack.{Dependency, Row}
use Rattle.meaning.specs.Tables.{RowsHeld}
use Rattle.meaning.specs.Tests.{any, any_two}
use Rattle.meaning.specs.WellFormed.{breaks}
use Rattle.pack.specs.declared.kinds.Kind.TheVariants as K
use Rattle.depends.specs.declared.Depends.{Depends}

-- a dependency as code passes it
abbrev pub dependency_of : Depends → Dependency
dependency_of d = record { relation = d.relation; left = d.left; right = d.right }

-- What refusals 4 and 7 leave of the rows: those of one relation have as many cells, and each is a value's number.
pub record Even (rs : List Row) : Type 0 where
  pub short : (x : Row) → x ∈ rs → length x.cells ≤ max_columns
  pub alike : (x y : Row) → x ∈ rs → y ∈ rs → x.relation ≡ y.relation → length x.cells ≡ length y.cells
  pub values : (x : Row) → x ∈ rs → (v : ℕ) → v ∈ x.cells → v < max_values

-- r says whether two rows break the dependency, whatever even rows the numbers hold.
abbrev pub SaysBreaks : Dependency → List ℕ → Bool → Type 0
SaysBreaks d rows r = (rs : List Row) → RowsHeld rs rows → Even rs → r ≡ any_two (breaks d) rs

-- The numbers are those of the dependencies, and no more.
pub record DependenciesHeld (ds : List Dependency) (numbers : List ℕ) : Type 0 where
  pub many : length numbers ≡ length ds * dependency_width
  pub held : BodyHeld K.Dependency [] ds 0 numbers

-- r says whether rows break a dependency, whatever dependencies and even rows the numbers hold.
abbrev pub SaysBroken : List ℕ → List ℕ → Bool → Type 0
SaysBroken dependencies rows r =
    (ds : List Dependency) (rs : List Row) → DependenciesHeld ds dependencies → RowsHeld rs rows → Even rs → r ≡ any (λ d. any_two (breaks d) rs) ds
