-- Records held as numbers, one after another; a setting's, body by body, and a pack's. Assumes nothing.
use Rattle.std.specs.Prelude.{drop, get_or, length, take, List, [], ◌∷◌, ◌≡◌, ℕ, ◌*◌}
use Rattle.std.proofs.Math.ListN.{get_elem?}
use Rattle.std.proofs.Math.Option.{some}
use Rattle.meaning.specs.Limits.{
  constructor_width,
  constructors_at,
  dependencies_at,
  dependency_width,
  predicates_at,
  relation_width,
  relations_at,
  row_width,
  rows_body,
  rule_width,
  rules_at,
  shape_width,
  shapes_at,
  text_width,
  types_at,
  values_at,
}
use Rattle.meaning.specs.Pack.{Constructor, Pack, Setting}
use Rattle.meaning.specs.Tables.{RowsHeld}
use Rattle.pack.specs.Kinds.{RecordOf}
use Rattle.pack.specs.declared.kinds.Kind.{Kind}
use Rattle.pack.specs.declared.kinds.Kind.TheVariants as K
use Rattle.records.specs.Numbers.{NumbersOf}

-- how many numbers a record has
abbrev pub width : Kind → ℕ
width K.Value = text_width
width K.Relation = relation_width
width K.Dependency = dependency_width
width K.Name = text_width
width K.Shape = shape_width
width K.Constructor = constructor_width
width K.Rule = rule_width
width K.Row = row_width

-- Each record's numbers, so many, stand after those of the records before it; `at` is where the first stands.
pub record RecordsHeld {A : Type 0} (N : A → List ℕ → Type 0) (w : ℕ) (records : List A) (at : ℕ) (numbers : List ℕ) : Type 0 where
  pub each : (i : ℕ) (x : A) → get_elem? records i ≡ some x → N x (take w (drop (i * w) (drop at numbers)))

abbrev pub BodyHeld : (k : Kind) → List ℕ → List (RecordOf k) → ℕ → List ℕ → Type 0
BodyHeld k s = RecordsHeld (NumbersOf k s) (width k)

-- ---- what building takes: no text

-- a constructor's first number
abbrev pub ArityFirst : Constructor → List ℕ → Type 0
ArityFirst k numbers = get_or numbers 0 0 ≡ k.arity

-- how many records each body has, in the order of the bodies
abbrev pub counts_of : Setting → List ℕ
counts_of S =
    length S.values ∷ length S.arities ∷ length S.dependencies ∷ length S.types ∷ length S.predicates ∷ length S.shapes
    ∷ length S.constructors ∷ length S.rules ∷ []

pub record SettingNumbers (S : Setting) (counts numbers : List ℕ) : Type 0 where
  pub counted : take rows_body counts ≡ counts_of S
  pub relations : BodyHeld K.Relation [] S.arities relations_at numbers
  pub dependencies : BodyHeld K.Dependency [] S.dependencies dependencies_at numbers
  pub shapes : BodyHeld K.Shape [] S.shapes shapes_at numbers
  pub arities : RecordsHeld ArityFirst constructor_width S.constructors constructors_at numbers
  pub rules : BodyHeld K.Rule [] S.rules rules_at numbers

-- ---- and the texts, by their places in the bytes

pub record SettingHeld (s : List ℕ) (S : Setting) (counts numbers : List ℕ) : Type 0 where
  pub bare : SettingNumbers S counts numbers
  pub values : BodyHeld K.Value s S.values values_at numbers
  pub types : BodyHeld K.Name s S.types types_at numbers
  pub predicates : BodyHeld K.Name s S.predicates predicates_at numbers
  pub constructors : BodyHeld K.Constructor s S.constructors constructors_at numbers

pub record PackHeld (s : List ℕ) (P : Pack) (counts numbers rows : List ℕ) : Type 0 where
  pub setting : SettingHeld s P.setting counts numbers
  pub many : get_or counts rows_body 0 ≡ length P.rows
  pub holds_rows : RowsHeld P.rows (take (row_width * length P.rows) rows)
