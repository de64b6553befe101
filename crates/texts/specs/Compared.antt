-- What refusals 5 and 6 compare of loaded records: the text of a value or a name, a constructor's prefix, a shape's type and
-- predicate. Assumes nothing.
use Rattle.std.proofs.Math.ListN.{get_elem?}
use Rattle.std.specs.Prelude.{length, take, Bool, ◌||◌, List, ◌≡◌, ℕ}
use Rattle.std.proofs.Math.Option.{some}
use Rattle.meaning.specs.Pack.{Pack}
use Rattle.meaning.specs.Tests.{any, any_two, begins, same_text}
use Rattle.meaning.specs.WellFormed.{same_cell}
use Rattle.pack.specs.Kinds.{RecordOf}
use Rattle.pack.specs.declared.kinds.Kind.{Kind}
use Rattle.pack.specs.declared.kinds.Kind.TheVariants as K
use Rattle.records.specs.PackHeld.{BodyHeld, SettingHeld, width}
use Rattle.records.specs.Numbers.{TextAt}
use Rattle.texts.specs.declared.Key.{Key}
use Rattle.texts.specs.declared.Key.TheVariants.{Cell, Prefix, Text}

-- the records that have the key; a name is held as a value is
abbrev pub key_kind : Key → Kind
key_kind Text = K.Value
key_kind Prefix = K.Constructor
key_kind Cell = K.Shape

abbrev pub Keyed : Key → Type 0
Keyed key = RecordOf (key_kind key)

abbrev pub width_of : Key → ℕ
width_of key = width (key_kind key)

-- "equal", "a prefix begins another constructor's prefix, or equals it", "share type and predicate"
abbrev pub clashes : (key : Key) → Keyed key → Keyed key → Bool
clashes Text = same_text
clashes Prefix = λ a b. begins a.prefix b.prefix || begins b.prefix a.prefix
clashes Cell = same_cell

-- A record's key is two of its numbers, one after the other, from this one on.
abbrev pub first_of : Key → ℕ
first_of Text = 0
first_of Prefix = 1
first_of Cell = 0

-- where the text starts and how many bytes it has; the type and the predicate
abbrev pub KeyIs : (key : Key) → List ℕ → Keyed key → ℕ → ℕ → Type 0
KeyIs Text s it a n = TextAt s it a n
KeyIs Prefix s it a n = TextAt s it.prefix a n
KeyIs Cell s it a n = (it.owner ≡ a) × (it.predicate ≡ n)

-- The two numbers are the record's key.
pub record Shows (key : Key) (s : List ℕ) (it : Keyed key) (a n : ℕ) : Type 0 where
  pub is : KeyIs key s it a n

-- The numbers hold so many records from a place on.
pub record Records (key : Key) (s : List ℕ) (records : List (Keyed key)) (numbers : List ℕ) (at n : ℕ) : Type 0 where
  pub held : BodyHeld (key_kind key) s records at numbers
  pub many : length records ≡ n

-- ---- they are some record's key, they hold so many records of some list, some pack's setting is held

pub record SomeShows (key : Key) (s : List ℕ) (a n : ℕ) : Type 0 where
  pub it : Keyed key
  pub shows : Shows key s it a n

pub record SomeRecords (key : Key) (s numbers : List ℕ) (at n : ℕ) : Type 0 where
  pub list : List (Keyed key)
  pub records : Records key s list numbers at n

pub record SomePack (s counts numbers : List ℕ) : Type 0 where
  pub pack : Pack
  pub held : SettingHeld s pack.setting counts numbers

-- ---- what the functions say, for every record, list of records and pack that the numbers hold

abbrev pub SaysTwo : Key → List ℕ → ℕ → ℕ → ℕ → ℕ → Bool → Type 0
SaysTwo key s a n b m r = (x y : Keyed key) → Shows key s x a n → Shows key s y b m → r ≡ clashes key x y

-- one of the records before record j clashes with it
abbrev pub SaysBefore : Key → List ℕ → List ℕ → ℕ → ℕ → ℕ → Bool → Type 0
SaysBefore key s numbers at n j r =
    (records : List (Keyed key)) (y : Keyed key) → Records key s records numbers at n → get_elem? records j ≡ some y
    → r ≡ any (λ x. clashes key x y) (take j records)

abbrev pub SaysAny : Key → List ℕ → List ℕ → ℕ → ℕ → Bool → Type 0
SaysAny key s numbers at n r = (records : List (Keyed key)) → Records key s records numbers at n → r ≡ any_two (clashes key) records

abbrev pub SaysOfPack : (Pack → Bool) → List ℕ → List ℕ → List ℕ → Bool → Type 0
SaysOfPack f s counts numbers r = (P : Pack) → SettingHeld s P.setting counts numbers → r ≡ f P
