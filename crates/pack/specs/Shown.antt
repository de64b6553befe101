-- What the cursor's methods say, in the terms of the readers. Assumes nothing.
use Rattle.std.specs.Prelude.{length, List, [], ◌∷◌, ◌≡◌, ℕ, ◌+◌, ◌≤◌, Option, Some, None}
use Rattle.std.proofs.Math.Seq.{slice}
use Rattle.std.proofs.Math.Option.{none, some}
use Rattle.meaning.specs.Limits.{max_atoms}
use Rattle.meaning.specs.Pack.{ShapeRecord, Atom, Head, Term, has_type, links_to, links_to_value}
use Rattle.pack.specs.Contents.{start_of, body_of}
use Rattle.pack.specs.Kinds.{kind_number}
use Rattle.pack.specs.Readers.{Reader, ◌>>=◌, byte, byte_in, give, only}
use Rattle.pack.specs.Records.{dependency, shape, constructor, target_of, multiplicity_of, variable, atoms, term, term_of, head_of, rule}
use Rattle.pack.specs.declared.cursor.Constructor.{Constructor}
use Rattle.pack.specs.declared.cursor.Cursor.{Cursor}
use Rattle.pack.specs.declared.cursor.Dependency.{Dependency}
use Rattle.pack.specs.declared.cursor.Head.{Head as HeadPlaces}
use Rattle.pack.specs.declared.cursor.Object.{Object}
use Rattle.pack.specs.declared.cursor.Object.TheVariants as O
use Rattle.pack.specs.declared.cursor.Rule.{Rule}
use Rattle.pack.specs.declared.cursor.Shape.{Shape}
use Rattle.pack.specs.declared.cursor.Text.{Text}
use Rattle.pack.specs.declared.cursor.Tuple.{Tuple}
use Rattle.pack.specs.declared.kinds.HeadKind.{HeadKind}
use Rattle.pack.specs.declared.kinds.HeadKind.TheVariants as H

-- the bytes from the cursor to the body's end
abbrev pub left : Cursor → List ℕ
left c = slice c.at c.end c.bytes.now

-- the cursor is at the start of body k
pub record BodyAt (s : List ℕ) (k : ℕ) (c : Cursor) : Type 0 where
  pub bytes : c.bytes.now ≡ s
  pub start : c.at ≡ start_of s k
  pub is : left c ≡ body_of s k

-- d is n bytes past c
pub record Past (c : Cursor) (n : ℕ) (d : Cursor) : Type 0 where
  pub bytes : d.bytes.now ≡ c.bytes.now
  pub same : d.end ≡ c.end
  pub at : d.at ≡ c.at + n

-- at c the reader gives a, and moves to d
pub record Got {A : Type 0} (reader : Reader A) (c : Cursor) (a : A) (d : Cursor) : Type 0 where
  pub reads : reader (left c) ≡ some (record { got = a; rest = left d })
  pub bytes : d.bytes.now ≡ c.bytes.now
  pub same : d.end ≡ c.end

-- at c the reader gives nothing
pub record Not {A : Type 0} (reader : Reader A) (c : Cursor) : Type 0 where
  pub reads : reader (left c) ≡ none

abbrev pub ByteShown : Reader ℕ → Cursor → Option (ℕ × Cursor) → Type 0
ByteShown reader c (Some p) = Got reader c p.0 p.1
ByteShown reader c None = Not reader c

-- the text of a place
abbrev pub text_at : List ℕ → ℕ → ℕ → List ℕ
text_at s start len = slice start (start + len) s

pub record TextGot (reader : Reader (List ℕ)) (c : Cursor) (t : Text) (d : Cursor) : Type 0 where
  pub got : Got reader c (text_at c.bytes.now t.start t.len) d
  pub inside : t.start + t.len ≤ length c.bytes.now

abbrev pub TextShown : Reader (List ℕ) → Cursor → Option (Text × Cursor) → Type 0
TextShown reader c (Some p) = TextGot reader c p.0 p.1
TextShown reader c None = Not reader c

abbrev pub DependencyShown : Cursor → Option (Dependency × Cursor) → Type 0
DependencyShown c (Some p) = Got dependency c (record { relation = p.0.relation; left = p.0.left; right = p.0.right }) p.1
DependencyShown c None = Not dependency c

abbrev pub shape_of : ℕ → ℕ → ℕ → ℕ → ShapeRecord
shape_of t p x m = record { owner = t; predicate = p; shape = record { target = target_of x; multiplicity = multiplicity_of m } }

pub record ShapeGot (c : Cursor) (t p x m : ℕ) (d : Cursor) : Type 0 where
  pub got : Got shape c (shape_of t p x m) d
  pub cell : t ∷ p ∷ [] ≡ text_at c.bytes.now c.at 2
  pub inside : c.at + 2 ≤ length c.bytes.now
  pub some : (1 ≤ m) × (m ≤ 4)

abbrev pub ShapeShown : Cursor → Option (Shape × Cursor) → Type 0
ShapeShown c (Some p) = ShapeGot c p.0.owner p.0.predicate p.0.target p.0.multiplicity p.1
ShapeShown c None = Not shape c

pub record ConstructorGot (c : Cursor) (k : Constructor) (d : Cursor) : Type 0 where
  pub got : Got constructor c (record { arity = k.arity; prefix = text_at c.bytes.now k.prefix.start k.prefix.len }) d
  pub inside : k.prefix.start + k.prefix.len ≤ length c.bytes.now

abbrev pub ConstructorShown : Cursor → Option (Constructor × Cursor) → Type 0
ConstructorShown c (Some p) = ConstructorGot c p.0 p.1
ConstructorShown c None = Not constructor c

-- a number and its bytes, made into one thing
abbrev pub made : {A : Type 0} {most : ℕ} → (ℕ → List ℕ → A) → Tuple most → A
made make t = make t.number t.items.now

pub record Pair : Type 0 where
  pub number : ℕ
  pub items : List ℕ

abbrev pub pair : ℕ → List ℕ → Pair
pair n xs = record { number = n; items = xs }

abbrev pub TupleShown : {A : Type 0} {most : ℕ} → (ℕ → List ℕ → A) → Reader A → Cursor → Option (Tuple most × Cursor) → Type 0
TupleShown make reader c (Some p) = Got reader c (made make p.0) p.1
TupleShown make reader c None = Not reader c

-- at c the reader gives something, and moves to d
pub record Skipped {A : Type 0} (reader : Reader A) (c d : Cursor) : Type 0 where
  pub it : A
  pub got : Got reader c it d

abbrev pub MovedShown : {A : Type 0} → Reader A → Cursor → Option Cursor → Type 0
MovedShown reader c (Some d) = Skipped reader c d
MovedShown reader c None = Not reader c

-- at c there is the number of a kind of head
abbrev pub HeadKindShown : Cursor → Option (HeadKind × Cursor) → Type 0
HeadKindShown c (Some p) = Got (byte_in 0 2) c (kind_number p.0) p.1
HeadKindShown c None = Not (byte_in 0 2) c

-- the head of a term, a type or predicate, and an object
abbrev pub head_with : Term → ℕ → Object → Head
head_with t l O.Nothing = has_type t l
head_with t l (O.Term u) = links_to t l (made term_of u)
head_with t l (O.Variable v) = links_to_value t l v

abbrev pub head_at : HeadPlaces → Head
head_at h = head_with (made term_of h.subject) h.label h.object

-- what a head of a kind has after its term and its type or predicate
unfoldable pub object_of : HeadKind → Term → ℕ → Reader Head
object_of H.Type t l = give (has_type t l)
object_of H.Link t l = do
  u ← term
  give (links_to t l u)
object_of H.Value t l = do
  v ← byte
  w ← only (variable v) v
  give (links_to_value t l w)

abbrev pub ObjectShown : HeadKind → Cursor → Option (Object × Cursor) → Type 0
ObjectShown kind c (Some p) = (t : Term) (l : ℕ) → Got (object_of kind t l) c (head_with t l p.0) p.1
ObjectShown kind c None = (t : Term) (l : ℕ) → Not (object_of kind t l) c

abbrev pub HeadShown : HeadKind → Cursor → Option (HeadPlaces × Cursor) → Type 0
HeadShown kind c (Some p) = Got (head_of (kind_number kind)) c (head_at p.0) p.1
HeadShown kind c None = Not (head_of (kind_number kind)) c

pub record RuleGot (c : Cursor) (r : Rule) (d : Cursor) : Type 0 where
  pub list : List Atom
  pub past : Cursor
  pub counted : Got (byte_in 1 max_atoms) c r.count r.first
  pub listed : Got (atoms r.count) r.first list past
  pub got : Got rule c (record { atoms = list; head = head_at r.head }) d

abbrev pub RuleShown : Cursor → Option (Rule × Cursor) → Type 0
RuleShown c (Some p) = RuleGot c p.0 p.1
RuleShown c None = Not rule c
