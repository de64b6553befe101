-- What loading a body, and loading a pack, say. Assumes nothing.
use Rattle.std.specs.Prelude.{length, take, List, ◌≡◌, ℕ, ◌+◌, ◌*◌, ◌≤◌, Option, Some, None}
use Rattle.std.proofs.Math.Option.{none, some}
use Rattle.meaning.specs.Pack.{Pack}
use Rattle.pack.specs.Contents.{body_of}
use Rattle.pack.specs.Kinds.{RecordOf, reader_of}
use Rattle.pack.specs.Shown.{left}
use Rattle.pack.specs.Unpack.{body, read_all, unpack}
use Rattle.pack.specs.declared.cursor.Cursor.{Cursor}
use Rattle.pack.specs.declared.kinds.Kind.{Kind}
use Rattle.records.specs.PackHeld.{BodyHeld, PackHeld, width}
use Rattle.load.specs.Bodies.{body_kind, limit_of, place_of}

-- The body from c on is n records, no more than the limit, and the numbers hold them from their front on.
pub record BodyLoaded (k : Kind) (c : Cursor) (limit n : ℕ) (out : List ℕ) : Type 0 where
  pub records : List (RecordOf k)
  pub read : read_all (reader_of k) (left c) ≡ some records
  pub many : n ≡ length records
  pub few : n ≤ limit
  pub held : BodyHeld k c.bytes.now records 0 out

abbrev pub BodyShown : Kind → Cursor → ℕ → List ℕ → Option ℕ → Type 0
BodyShown k c limit out (Some n) = BodyLoaded k c limit n out
BodyShown k c limit out None = body (reader_of k) limit (left c) ≡ none

-- There is room for body i at its place.
abbrev pub BodyRoom : ℕ → List ℕ → Type 0
BodyRoom i out = place_of i + limit_of i * width (body_kind i) ≤ length out

-- Body i is n records, no more than the limit, and the numbers hold them from a place on.
pub record PartIn (i : ℕ) (k : Kind) (limit at : ℕ) (s : List ℕ) (n : ℕ) (out : List ℕ) : Type 0 where
  pub records : List (RecordOf k)
  pub read : body (reader_of k) limit (body_of s i) ≡ some records
  pub many : n ≡ length records
  pub few : n ≤ limit
  pub held : BodyHeld k s records at out

-- Body i is in the numbers, at its place; those before it are as they were.
pub record PartLoaded (i : ℕ) (s : List ℕ) (n : ℕ) (out out' : List ℕ) : Type 0 where
  pub part : PartIn i (body_kind i) (limit_of i) (place_of i) s n out'
  pub kept : take (place_of i) out' ≡ take (place_of i) out

-- Body i is not whole records, or more than its limit.
abbrev pub NoPart : ℕ → List ℕ → Type 0
NoPart i s = body (reader_of (body_kind i)) (limit_of i) (body_of s i) ≡ none

abbrev pub PartShown : ℕ → List ℕ → List ℕ → List ℕ → Option ℕ → Type 0
PartShown i s out out' (Some n) = PartLoaded i s n out out'
PartShown i s out out' None = NoPart i s

-- The bytes are a pack, and the numbers hold it.
pub record PackLoaded (s counts numbers rows : List ℕ) : Type 0 where
  pub pack : Pack
  pub is : unpack s ≡ some pack
  pub held : PackHeld s pack counts numbers rows

abbrev pub PackShown : List ℕ → Option (List ℕ) → List ℕ → List ℕ → Type 0
PackShown s (Some counts) numbers rows = PackLoaded s counts numbers rows
PackShown s None numbers rows = unpack s ≡ none
