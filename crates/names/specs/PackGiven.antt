-- A pack that numbers hold, within what refusal 4 leaves: just what refusal 7 and building need. Assumes nothing.
use Rattle.std.specs.Prelude.{drop, get_or, length, take, false, List, [], ◌≢◌, ◌≡◌, ℕ, ◌*◌, ◌≤◌, ◌<◌}
use Rattle.records.specs.PackHeld.{SettingNumbers}
use Rattle.records.specs.Numbers.{NumbersOf}
use Rattle.meaning.specs.Limits.{
  dependency_width,
  literal_target,
  max_arguments,
  max_atoms,
  max_columns,
  max_constructors,
  max_dependencies,
  max_head_variables,
  max_predicates,
  max_relations,
  max_rows,
  max_rules,
  max_shapes,
  max_types,
  max_values,
  max_variables,
  row_width,
  rows_body,
  setting_length,
  shape_width,
  unused,
}
use Rattle.meaning.specs.Member.{◌∈◌}
use Rattle.meaning.specs.Pack.{Atom, Constructor, Dependency, Pack, Row, Rule, ShapeRecord, type}
use Rattle.meaning.specs.Tables.{RowsHeld, head_arguments, row_numbers}
use Rattle.meaning.specs.WellFormed.{dangling}
use Rattle.pack.specs.declared.kinds.Kind.TheVariants as K
use Rattle.records.specs.declared.setting.LoadedSetting.{LoadedSetting}

-- ---- bounds

pub record RuleBounds (r : Rule) : Type 0 where
  pub atoms : length r.atoms ≤ max_atoms
  pub variables : (a : Atom) → a ∈ r.atoms → length a.variables ≤ max_columns
  pub below : (a : Atom) → a ∈ r.atoms → (v : ℕ) → v ∈ a.variables → v < max_variables
  pub arguments : length (head_arguments r.head) ≤ max_head_variables

pub record RowBounds (x : Row) : Type 0 where
  pub short : length x.cells ≤ max_columns
  pub used : (v : ℕ) → v ∈ x.cells → v < unused

-- Literal's number is no type's
abbrev pub TargetBound : ShapeRecord → Type 0
TargetBound x = x.shape.target ≢ type literal_target

pub record Bounds (P : Pack) : Type 0 where
  pub values : length P.setting.values ≤ max_values
  pub relations : length P.setting.arities ≤ max_relations
  pub dependencies : length P.setting.dependencies ≤ max_dependencies
  pub types : length P.setting.types ≤ max_types
  pub predicates : length P.setting.predicates ≤ max_predicates
  pub shapes : length P.setting.shapes ≤ max_shapes
  pub constructors : length P.setting.constructors ≤ max_constructors
  pub rules : length P.setting.rules ≤ max_rules
  pub rows : length P.rows ≤ max_rows
  pub arity : (k : ℕ) → k ∈ P.setting.arities → k ≤ max_columns
  pub arguments : (k : Constructor) → k ∈ P.setting.constructors → (1 ≤ k.arity) × (k.arity ≤ max_arguments)
  pub target : (x : ShapeRecord) → x ∈ P.setting.shapes → TargetBound x
  pub rule : (r : Rule) → r ∈ P.setting.rules → RuleBounds r
  pub row : (x : Row) → x ∈ P.rows → RowBounds x

-- ---- numbers

-- The numbers are those of the pack's setting, but for its texts.
pub record SettingGiven (P : Pack) (counts numbers : List ℕ) : Type 0 where
  pub bare : SettingNumbers P.setting counts numbers
  pub bounds : Bounds P
  pub long : setting_length ≤ length numbers

-- And the rows are its rows.
pub record PackGiven (P : Pack) (counts numbers rows : List ℕ) : Type 0 where
  pub setting : SettingGiven P counts numbers
  pub many : get_or counts rows_body 0 ≡ length P.rows
  pub holds_rows : RowsHeld P.rows (take (row_width * length P.rows) rows)

-- They are those of some pack.
pub record IsSetting (counts numbers : List ℕ) : Type 0 where
  pub pack : Pack
  pub given : SettingGiven pack counts numbers

pub record IsPack (counts numbers rows : List ℕ) : Type 0 where
  pub pack : Pack
  pub given : PackGiven pack counts numbers rows

-- Each names records that are there: refusal 7 is false of the pack.
pub record Resolved (P : Pack) (counts numbers rows : List ℕ) : Type 0 where
  pub given : PackGiven P counts numbers rows
  pub resolved : dangling P ≡ false

pub record IsResolved (counts numbers rows : List ℕ) : Type 0 where
  pub pack : Pack
  pub is : Resolved pack counts numbers rows

-- ---- one record's numbers at a place

pub record RowAt (x : Row) (rows : List ℕ) (at : ℕ) : Type 0 where
  pub are : take row_width (drop at rows) ≡ row_numbers x
  pub bounds : RowBounds x

pub record DependencyAt (x : Dependency) (numbers : List ℕ) (at : ℕ) : Type 0 where
  pub are : NumbersOf K.Dependency [] x (take dependency_width (drop at numbers))

pub record ShapeAt (x : ShapeRecord) (numbers : List ℕ) (at : ℕ) : Type 0 where
  pub are : NumbersOf K.Shape [] x (take shape_width (drop at numbers))
  pub bound : TargetBound x

-- ---- what a function says: of every pack that the numbers hold, of every record at a place

abbrev pub ForSetting : List ℕ → List ℕ → (Pack → Type 0) → Type 0
ForSetting counts numbers Q = (P : Pack) → SettingGiven P counts numbers → Q P

abbrev pub ForPack : List ℕ → List ℕ → List ℕ → (Pack → Type 0) → Type 0
ForPack counts numbers rows Q = (P : Pack) → PackGiven P counts numbers rows → Q P

abbrev pub ForResolved : List ℕ → List ℕ → List ℕ → (Pack → Type 0) → Type 0
ForResolved counts numbers rows Q = (P : Pack) → Resolved P counts numbers rows → Q P

abbrev pub ForRow : List ℕ → ℕ → (Row → Type 0) → Type 0
ForRow rows at Q = (x : Row) → RowAt x rows at → Q x

abbrev pub ForDependency : List ℕ → ℕ → (Dependency → Type 0) → Type 0
ForDependency numbers at Q = (x : Dependency) → DependencyAt x numbers at → Q x

abbrev pub ForShape : List ℕ → ℕ → (ShapeRecord → Type 0) → Type 0
ForShape numbers at Q = (x : ShapeRecord) → ShapeAt x numbers at → Q x

-- ---- the same of a setting as it is loaded

abbrev pub HoldsSetting : LoadedSetting → Type 0
HoldsSetting l = IsSetting l.counts l.numbers.now

abbrev pub HoldsPack : LoadedSetting → List ℕ → Type 0
HoldsPack l rows = IsPack l.counts l.numbers.now rows

abbrev pub HoldsResolved : LoadedSetting → List ℕ → Type 0
HoldsResolved l rows = IsResolved l.counts l.numbers.now rows

abbrev pub ForSettingOf : LoadedSetting → (Pack → Type 0) → Type 0
ForSettingOf l Q = ForSetting l.counts l.numbers.now Q

abbrev pub ForPackOf : LoadedSetting → List ℕ → (Pack → Type 0) → Type 0
ForPackOf l rows Q = ForPack l.counts l.numbers.now rows Q

abbrev pub ForResolvedOf : LoadedSetting → List ℕ → (Pack → Type 0) → Type 0
ForResolvedOf l rows Q = ForResolved l.counts l.numbers.now rows Q
