-- A body loaded into a part of the numbers. Assumes nothing.
use borrow.Author.Tests.{le-leb}
use lib.ListN.{drop, length, length-drop, take}
use lib.Seq.{drop_at, length-take-le, take_at}
use mathlib.Core.List.{List, ◌++◌}
use mathlib.Core.Option.{some}
use mathlib.Core.Path.{◌≡◌, refl, ap, ◌∙◌}
use native.Mathlib.Nat.{mul-le-mul_right}
use native.Mathlib.Omega.{arith}
use Prim.Native.Nat.{ℕ, ◌+◌, ◌*◌, ◌-◌, ◌≤◌}
use Rattle.std.specs.Prelude.{Option, Some, None}
use Rattle.load.specs.Bodies.{body_kind, limit_of, place_of}
use Rattle.load.specs.Loaded.{BodyLoaded, BodyShown, PartIn, PartShown, BodyRoom}
use Rattle.pack.specs.Contents.{body_of}
use Rattle.pack.specs.Kinds.{reader_of}
use Rattle.pack.specs.Readers.{Reader}
use Rattle.pack.specs.Shown.{BodyAt}
use Rattle.pack.specs.Unpack.{at_most, body, read_all}
use Rattle.pack.specs.declared.cursor.Cursor.{Cursor}
use Rattle.pack.specs.declared.kinds.Kind.{Kind}
use Rattle.records.specs.PackHeld.{width}
use Rattle.records.specs.Numbers.{NumbersOf}
use Rattle.load.proofs.HeldRecords.{held_at}

-- no more than the limit
few_read : {A : Type 0} (reader : Reader A) (limit : ℕ) (s : List ℕ) (xs : List A) → read_all reader s ≡ some xs → length xs ≤ limit → body reader limit s ≡ some xs
unfolding body
few_read reader limit s xs e h = rw (e, le-leb (length xs) limit h, at_most)

module _ (i : ℕ) {k : Kind} {limit at : ℕ} (e : k ≡ body_kind i) (f : limit ≡ limit_of i) (g : at ≡ place_of i) (out : List ℕ) (room : BodyRoom i out) where
  fits : at + limit * width k ≤ length out
  fits = rw (e, f, g) room

  -- the part from a place on has room for what the list has room for past it
  pub part_room : limit * width k ≤ length (take (length out - at) (drop at out))
  part_room = omega (arith, fits, length-take-le (length out - at) (drop at out) (omega (arith, length-drop at out)))

  module _ {s : List ℕ} {c : Cursor} (b : BodyAt s i c) (part rest : List ℕ) (long : limit * width k ≤ length part) where
    front : length (take at out) ≡ at
    front = length-take-le at out (omega (arith, fits))

    abbrev after : List ℕ
    after = take at out ++ (part ++ rest)

    here : take (length part) (drop at after) ≡ part
    here = ap (take (length part)) (drop_at (take at out) (part ++ rest) at front) ∙ take_at part rest (length part) refl

    loaded : {n : ℕ} → BodyLoaded k c limit n part → PartIn i k limit at s n after
    loaded {n} l =
        let few : length l.records ≤ limit = omega (arith, l.many, l.few) in
        let all : length l.records * width k ≤ length part = omega (arith, long, mul-le-mul_right {m = length l.records} {n = limit} (width k) few) in
        record {
          records = l.records;
          read = few_read (reader_of k) limit (body_of s i) l.records (rw b.is at l.read) few;
          many = l.many;
          few = l.few;
          held = held_at (NumbersOf k s) (width k) at (rw b.bytes at l.held) all here;
        }

    pub part_shown : (r : Option ℕ) → BodyShown k c limit part r → PartShown i s out after r
    part_shown (Some n) l = record { part = rw (← e, ← f, ← g) (loaded l); kept = rw (← g) (take_at (take at out) (part ++ rest) at front) }
    part_shown None h = rw (e, f, b.is) at h
