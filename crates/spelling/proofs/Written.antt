-- Laws of writing a segment into a list, byte after byte. Assumes nothing.
use borrow.Author.Tests.{le-leb, lt-leb, leb-true, leb-false, not-true, not-false}
use borrow.Rule.Slice.PartMut.{put_mid}
use lib.Dec.{leb}
use lib.ListN.{length, drop, get_or, set, take, length-append, drop_of_length-le}
use lib.Seq.{drop-cons, drop-drop, sets-eq}
use mathlib.Core.Bool.{Bool, true, false, not}
use mathlib.Core.List.{[], ◌∷◌, ◌++◌, append_assoc}
use mathlib.Core.Path.{◌≡◌, refl, sym, ap, ◌∙◌}
use native.Mathlib.Numerals.{add-one}
use native.Mathlib.Omega.{arith}
use Prim.Native.Nat.{ℕ, ◌+◌, ◌-◌, ◌/◌, ◌%◌, ◌<◌, ◌≤◌}
use Rattle.meaning.specs.Pack.{Text}
use Rattle.meaning.proofs.Cases.{case_on}
use Rattle.spelling.proofs.Segments.{byte_stays, byte_escaped}
use Rattle.std.specs.Prelude.{None, Some}
use Rattle.spelling.specs.Segment.{unreserved, hex_digit, spelled_byte, segment, percent}
use Rattle.spelling.specs.Writing.{written, place_after, written_if_room}
use Rattle.meaning.proofs.Lists.Overwriting.{nothing_written, parts_written, written_long}

-- ---- lengths

pub one_long : (b : ℕ) → unreserved b ≡ true → 1 ≡ length (spelled_byte b)
one_long b e = rw (byte_stays b e)

pub three_long : (b : ℕ) → unreserved b ≡ false → 3 ≡ length (spelled_byte b)
three_long b e = rw (byte_escaped b e)

-- the segment of what is left of a value
pub segment_next : (v : Text) (i : ℕ) → i < length v → segment (drop i v) ≡ spelled_byte (get_or v i 0) ++ segment (drop (i + 1) v)
unfolding segment
segment_next v i h = rw (add-one, drop-cons v i 0)

pub segment_none : (v : Text) (i : ℕ) → length v ≤ i → segment (drop i v) ≡ []
unfolding segment
segment_none v i h = rw drop_of_length-le

-- ---- whether a segment has room: the first i bytes of v have been taken off

pub record Room (v : Text) (room i left : ℕ) : Type 0 where
  pub is : leb (length (segment (drop i v))) left ≡ leb (length (segment v)) room

pub room_start : (v : Text) (room : ℕ) → Room v room 0 room
room_start v room = record { is = refl }

leb_shift : (n m left : ℕ) → n ≤ left → leb (n + m) left ≡ leb m (left - n)
leb_shift n m left h =
    case_on (leb m (left - n))
    (λ e. rw e (le-leb (n + m) left (let k = leb-true m (left - n) e in omega arith)))
    (λ e. rw e (lt-leb (n + m) left (let k = leb-false m (left - n) e in omega arith)))

module _ {v : Text} {room i left : ℕ} (r : Room v room i left) (h : i < length v) (n : ℕ) (e : n ≡ length (spelled_byte (get_or v i 0))) where
  room_next : leb (n + length (segment (drop (i + 1) v))) left ≡ leb (length (segment v)) room
  room_next = rw e (rw (segment_next v i h, length-append) at r.is)

  pub room_again : n ≤ left → Room v room (i + 1) (left - n)
  room_again l = record { is = sym (leb_shift n (length (segment (drop (i + 1) v))) left l) ∙ room_next }

  pub room_over : left < n → false ≡ leb (length (segment v)) room
  room_over l = sym (lt-leb (n + length (segment (drop (i + 1) v))) left (omega arith)) ∙ room_next

pub room_done : {v : Text} {room i left : ℕ} → Room v room i left → length v ≤ i → true ≡ leb (length (segment v)) room
room_done {v} {room} {i} {left} r h = sym (le-leb 0 left (omega arith)) ∙ rw (segment_none v i h) at r.is

-- ---- what the stores of one byte leave

-- a text copied over as many bytes
copied_written : (part : Text) (at n : ℕ) (d : Text) → n ≡ length part → put_mid at n d part ≡ written part at d
copied_written part at n d e = rw (e, drop-drop) (sym (append_assoc (take at d) part (drop (at + length part) d)))

module _ (b at : ℕ) (d : Text) (room : at + length (spelled_byte b) ≤ length d) where
  pub stays_written : unreserved b ≡ true → (at + 1 ≡ at + length (spelled_byte b)) × (set d at b ≡ written (spelled_byte b) at d)
  stays_written e = let l = one_long b e in rw (byte_stays b e) (refl, sets-eq (b ∷ []) d at (omega arith))

  pub escaped_written : {x y : ℕ} → unreserved b ≡ false → x ≡ hex_digit (b / 16) → y ≡ hex_digit (b % 16) → {part : Text} → part ≡ percent ∷ x ∷ y ∷ []
      → (at + 3 ≡ at + length (spelled_byte b)) × (put_mid at (at + 3 - at) d part ≡ written (spelled_byte b) at d)
  escaped_written e p q {part} w =
      let l = three_long b e in
      let s : part ≡ spelled_byte b = w ∙ (λ i. percent ∷ p i ∷ q i ∷ []) ∙ sym (byte_escaped b e) in
      (omega arith, rw s (copied_written (spelled_byte b) at (at + 3 - at) d (omega arith)))

-- ---- a segment written: the first i bytes of v are done, the next goes to `to`

pub record Writing (v : Text) (at : ℕ) (d₀ : Text) (i to : ℕ) (d : Text) : Type 0 where
  pub long : length d ≡ length d₀
  pub place : to + length (segment (drop i v)) ≡ at + length (segment v)
  pub room : to + length (segment (drop i v)) ≤ length d
  pub is : written (segment (drop i v)) to d ≡ written (segment v) at d₀

writing_start : (v : Text) (at : ℕ) (d : Text) → at + length (segment v) ≤ length d → Writing v at d 0 at d
writing_start v at d h = record { long = refl; place = refl; room = h; is = refl }

module _ {v : Text} {at : ℕ} {d₀ : Text} {i to : ℕ} {d : Text} (w : Writing v at d₀ i to d) (h : i < length v) where
  abbrev byte : Text
  byte = spelled_byte (get_or v i 0)

  abbrev rest : Text
  rest = segment (drop (i + 1) v)

  next : length (segment (drop i v)) ≡ length byte + length rest
  next = ap length (segment_next v i h) ∙ length-append byte rest

  pub writing_room : to + length byte ≤ length d
  writing_room = omega (arith, next, w.room)

  pub writing_again : (to' : ℕ) (d' : Text) → to' ≡ to + length byte → d' ≡ written byte to d → Writing v at d₀ (i + 1) to' d'
  writing_again to' d' p q =
      let l : length d' ≡ length d = ap length q ∙ written_long to (length byte) byte d refl writing_room in
      record {
        long = l ∙ w.long;
        place = omega (arith, next, w.place);
        room = omega (arith, next, w.room);
        is = rw (p, q) (parts_written to (length byte) byte d refl writing_room rest ∙ rw (← segment_next v i h) w.is);
      }

writing_done : {v : Text} {at : ℕ} {d₀ : Text} {i to : ℕ} {d : Text} → Writing v at d₀ i to d → length v ≤ i
    → (to ≡ at + length (segment v)) × (d ≡ written (segment v) at d₀)
writing_done {v} {at} {d₀} {i} {to} {d} w h =
    let n = segment_none v i h in
    let p = rw n at w.place in
    (omega arith, nothing_written to d ∙ rw n at w.is)

-- ---- the answer

module _ (text : Text) (at : ℕ) (d : Text) where
  no_room : length d < at + length text → (None ≡ place_after text at d) × (d ≡ written_if_room text at d)
  unfolding place_after written_if_room
  no_room h = rw (lt-leb (at + length text) (length d) h) (refl, refl)

  all_written : at + length text ≤ length d → (to : ℕ) (d' : Text) → (to ≡ at + length text) × (d' ≡ written text at d)
      → (Some to ≡ place_after text at d) × (d' ≡ written_if_room text at d)
  unfolding place_after written_if_room
  all_written h to d' e = rw (le-leb (at + length text) (length d) h) (ap Some e.0, e.1)

-- the same, with the code's tests

pub no_place : (text : Text) (at : ℕ) (d : Text) → length d < at → (None ≡ place_after text at d) × (d ≡ written_if_room text at d)
no_place text at d h = no_room text at d (omega arith)

module _ (v : Text) (at : ℕ) (d : Text) (h : at ≤ length d) (r : Bool) (e : r ≡ leb (length (segment v)) (length d - at)) where
  fits : not r ≡ false → at + length (segment v) ≤ length d
  fits n = omega (arith, leb-true (length (segment v)) (length d - at) (sym e ∙ not-false r n))

  pub fits_not : not r ≡ true → (None ≡ place_after (segment v) at d) × (d ≡ written_if_room (segment v) at d)
  fits_not n = no_room (segment v) at d (omega (arith, leb-false (length (segment v)) (length d - at) (sym e ∙ not-true r n)))

  pub fits_start : not r ≡ false → Writing v at d 0 at d
  fits_start n = writing_start v at d (fits n)

  pub fits_done : not r ≡ false → {i to : ℕ} {d' : Text} → Writing v at d i to d' → length v ≤ i
      → (Some to ≡ place_after (segment v) at d) × (d' ≡ written_if_room (segment v) at d)
  fits_done n {i} {to} {d'} w l = all_written (segment v) at d (fits n) to d' (writing_done w l)
