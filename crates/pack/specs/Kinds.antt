-- The kinds of record by which the code calls their readers; the kinds of a rule's head. Assumes nothing.
use Rattle.std.specs.Prelude.{◌≡◌, ℕ, zero, suc, ◌<◌, Option, Some, None}
use Rattle.meaning.specs.Pack.{Text, Dependency, ShapeRecord, Constructor, Rule, Row}
use Rattle.pack.specs.Readers.{Reader}
use Rattle.pack.specs.Records.{value, relation, dependency, name, shape, constructor, head_of, rule, row}
use Rattle.pack.specs.declared.kinds.HeadKind.{HeadKind}
use Rattle.pack.specs.declared.kinds.HeadKind.TheVariants as H
use Rattle.pack.specs.declared.kinds.Kind.{Kind}
use Rattle.pack.specs.declared.kinds.Kind.TheVariants as K

abbrev pub RecordOf : Kind → Type 0
RecordOf K.Value = Text
RecordOf K.Relation = ℕ
RecordOf K.Dependency = Dependency
RecordOf K.Name = Text
RecordOf K.Shape = ShapeRecord
RecordOf K.Constructor = Constructor
RecordOf K.Rule = Rule
RecordOf K.Row = Row

abbrev pub reader_of : (k : Kind) → Reader (RecordOf k)
reader_of K.Value = value
reader_of K.Relation = relation
reader_of K.Dependency = dependency
reader_of K.Name = name
reader_of K.Shape = shape
reader_of K.Constructor = constructor
reader_of K.Rule = rule
reader_of K.Row = row

-- "Head kind 0: term, type. Kind 1: term, predicate, term. Kind 2: term, predicate, variable."
abbrev pub kind_number : HeadKind → ℕ
kind_number H.Type = 0
kind_number H.Link = 1
kind_number H.Value = 2

-- the kind of a number, or it has none
abbrev pub KindOf : ℕ → Option HeadKind → Type 0
KindOf n (Some k) = n ≡ kind_number k
KindOf n None = 2 < n

-- the kind by which `head_of` reads a head of the number: any number above 1 is that of a value
abbrev pub kind_read : ℕ → HeadKind
kind_read zero = H.Type
kind_read (suc zero) = H.Link
kind_read (suc (suc k)) = H.Value

-- a head of the number is read as one of the kind
pub record ReadAs (n : ℕ) (k : HeadKind) : Type 0 where
  pub kind : k ≡ kind_read n
  pub heads : head_of n ≡ head_of (kind_number k)
