-- A pack's records as numbers, so many to each kind. A text is its place in the bytes. Assumes nothing.
use Rattle.std.specs.Prelude.{length, List, [], ◌∷◌, ◌≡◌, ℕ, ◌+◌, ◌≤◌}
use Rattle.meaning.specs.Limits.{literal_target}
use Rattle.meaning.specs.Pack.{Constructor, Literal, Target, Text, multiplicity_number, type}
use Rattle.meaning.specs.Tables.{row_numbers, rule_numbers}
use Rattle.pack.specs.Kinds.{RecordOf}
use Rattle.pack.specs.Shown.{text_at}
use Rattle.pack.specs.declared.kinds.Kind.{Kind}
use Rattle.pack.specs.declared.kinds.Kind.TheVariants as K

-- The text stands at a place: where it starts, how many bytes it has.
pub record TextAt (s : List ℕ) (text : Text) (start len : ℕ) : Type 0 where
  pub is : text ≡ text_at s start len
  pub inside : start + len ≤ length s

pub record TextNumbers (s : List ℕ) (text : Text) (numbers : List ℕ) : Type 0 where
  pub start : ℕ
  pub len : ℕ
  pub are : numbers ≡ start ∷ len ∷ []
  pub stands : TextAt s text start len

-- "arity 1 to 4, length 1 to 32, prefix"
pub record ConstructorNumbers (s : List ℕ) (it : Constructor) (numbers : List ℕ) : Type 0 where
  pub start : ℕ
  pub len : ℕ
  pub are : numbers ≡ it.arity ∷ start ∷ len ∷ []
  pub stands : TextAt s it.prefix start len

-- "target (a type, or 255 for Literal)"
abbrev pub target_number : Target → ℕ
target_number Literal = literal_target
target_number (type t) = t

-- These are the record's numbers.
abbrev pub NumbersOf : (k : Kind) → List ℕ → RecordOf k → List ℕ → Type 0
NumbersOf K.Value s x numbers = TextNumbers s x numbers
NumbersOf K.Relation s x numbers = numbers ≡ x ∷ []
NumbersOf K.Dependency s x numbers = numbers ≡ x.relation ∷ x.left ∷ x.right ∷ []
NumbersOf K.Name s x numbers = TextNumbers s x numbers
NumbersOf K.Shape s x numbers =
    numbers ≡ x.owner ∷ x.predicate ∷ target_number x.shape.target ∷ multiplicity_number x.shape.multiplicity ∷ []
NumbersOf K.Constructor s x numbers = ConstructorNumbers s x numbers
NumbersOf K.Rule s x numbers = numbers ≡ rule_numbers x
NumbersOf K.Row s x numbers = numbers ≡ row_numbers x
