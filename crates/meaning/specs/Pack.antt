-- The decoded pack: what its nine bodies say (document 01, "The pack"). Numbers are those of the records' fields, texts are
-- lists of bytes. Everything but the rows is the setting. Assumes nothing.
use Rattle.std.specs.Prelude.{List, [], ◌∷◌, Bool, true, false, ◌≡◌, ℕ}
use Rattle.std.proofs.Math.Logic.Dec.{and as dec_and}
use Rattle.std.proofs.Math.Option.{Option, none, some}
use Rattle.std.proofs.Math.Decide.{ℕ_discrete}

abbrev pub Text : Type 0
Text = List ℕ

-- ---- shapes (body 6)

-- "target (a type, or 255 for Literal)"
pub data Target : Type 0 where
  Literal : Target
  type : ℕ → Target
  deriving Discrete as Target-discrete

-- "multiplicity (1 one, 2 optional, 3 any number, 4 at least one)"
pub data Multiplicity : Type 0 where
  one optional any_number at_least_one : Multiplicity

abbrev pub multiplicity_number : Multiplicity → ℕ
multiplicity_number one = 1
multiplicity_number optional = 2
multiplicity_number any_number = 3
multiplicity_number at_least_one = 4

-- "A type requires p if its multiplicity for p is 1 or 4."
abbrev pub requires : Multiplicity → Bool
requires one = true
requires optional = false
requires any_number = false
requires at_least_one = true

-- "multiplicity 1 or 2": at most one such edge.
abbrev pub limits : Multiplicity → Bool
limits one = true
limits optional = true
limits any_number = false
limits at_least_one = false

-- r is the test's answer on the multiplicity of this number.
abbrev pub AnswersTest : (Multiplicity → Bool) → ℕ → Bool → Type 0
AnswersTest test number r = (m : Multiplicity) → number ≡ multiplicity_number m → r ≡ test m

pub record Shape : Type 0 where
  pub target : Target
  pub multiplicity : Multiplicity

-- "type, predicate, target, multiplicity"
pub record ShapeRecord : Type 0 where
  pub owner : ℕ  -- the type whose shape it is
  pub predicate : ℕ
  pub shape : Shape

-- ---- rows and rules (bodies 9 and 8)

-- "relation, count 1 to 8, value numbers"
pub record Row : Type 0 where
  pub relation : ℕ
  pub cells : List ℕ

-- "each atom a relation, a count 1 to 8 and that many variables"
pub record Atom : Type 0 where
  pub relation : ℕ
  pub variables : List ℕ

-- "A term is a constructor, a count 1 to 4 and variables."
pub record Term : Type 0 where
  pub constructor : ℕ
  pub variables : List ℕ

pub data Head : Type 0 where
  has_type : Term → ℕ → Head  -- "Head kind 0: term, type."
  links_to : Term → ℕ → Term → Head  -- "Kind 1: term, predicate, term."
  links_to_value : Term → ℕ → ℕ → Head  -- "Kind 2: term, predicate, variable."

pub record Rule : Type 0 where
  pub atoms : List Atom
  pub head : Head

-- ---- the rest

-- "relation, left columns, right columns; the bit of weight 2 to the power c names column c"
pub record Dependency : Type 0 where
  pub relation : ℕ
  pub left : ℕ
  pub right : ℕ

-- "arity 1 to 4, length 1 to 32, prefix"
pub record Constructor : Type 0 where
  pub arity : ℕ
  pub prefix : Text

pub record Setting : Type 0 where
  pub values : List Text
  pub arities : List ℕ  -- of the relations
  pub dependencies : List Dependency
  pub types : List Text  -- their names
  pub predicates : List Text  -- their names
  pub shapes : List ShapeRecord
  pub constructors : List Constructor
  pub rules : List Rule

pub record Pack : Type 0 where
  pub setting : Setting
  pub rows : List Row

-- ---- a type's shape for a predicate

unfoldable pub first_shape : {Q : Type 0} → Dec Q → Shape → Option Shape → Option Shape
first_shape (yes q) s o = some s
first_shape (no n) s o = o

unfoldable pub shape_in : List ShapeRecord → ℕ → ℕ → Option Shape
unfolding dec_and first_shape ℕ_discrete
shape_in [] t p = none
shape_in (r ∷ rs) t p = first_shape (dec_and (ℕ_discrete t r.owner) (ℕ_discrete p r.predicate)) r.shape (shape_in rs t p)

-- Type t's shape for p. (Two shapes that share type and predicate are refusal 5, so the first is the only one.)
unfoldable pub shape_of : Setting → ℕ → ℕ → Option Shape
unfolding shape_in
shape_of S = shape_in S.shapes

-- Type t's shape for p is s.
pub record HasShape (S : Setting) (t p : ℕ) (s : Shape) : Type 0 where
  pub is : shape_of S t p ≡ some s
