-- How an expression stands in the reader's list of parts: one number to a part, the parts of a part before it, so that
-- each expression is a run of parts whose last is its root. Assumes nothing.
use Rattle.std.specs.Prelude.{length, take, drop, get_or, List, ◌≡◌, ℕ, ◌%◌, ◌*◌, ◌+◌, ◌-◌, ◌/◌, ◌<◌}
use Rattle.meaning.specs.Limits.{part_room}
use Rattle.meaning.specs.Pack.{Text}
use Rattle.meaning.specs.Query.{Expr, stay, step, any_step, at_iri, at_literal, nested, sequence, union, star}

abbrev pub kind_room : ℕ  -- the two numbers of a part
kind_room = part_room * part_room

-- A part: its kind and two numbers below part_room. The kinds are
--   0 stay   1 any step   2 a step by name   3 at an IRI   4 at a literal   5 nested   6 star   7 sequence   8 union
-- Of a name or a label (2, 3, 4) the numbers are where it begins in the query, and its length. Of a sequence or a union
-- (7, 8) the first number is the root of the left part. The root of the only or right part stands just before its parent.
unfoldable pub part : ℕ → ℕ → ℕ → ℕ
part kind a b = kind * kind_room + a * part_room + b

-- The numbers of the part i of a list.
abbrev pub kind_of : List ℕ → ℕ → ℕ
kind_of t i = get_or t i 0 / kind_room

abbrev pub first_number : List ℕ → ℕ → ℕ
first_number t i = get_or t i 0 / part_room % part_room

abbrev pub second_number : List ℕ → ℕ → ℕ
second_number t i = get_or t i 0 % part_room

-- The text is the query's bytes from a on.
pub record QueryTextAt (q : Text) (a : ℕ) (s : Text) : Type 0 where
  pub begins : a < part_room
  pub short : length s < part_room
  pub bytes : take (length s) (drop a q) ≡ s

-- `Holds q t n e m`: the parts of t from n up to m hold e, with the bytes of names and labels in q.
pub data Holds (q t : List ℕ) : ℕ → Expr → ℕ → Type 0 where
  h_stay : {n : ℕ} → get_or t n 0 ≡ part 0 0 0 → Holds q t n stay (n + 1)
  h_any : {n : ℕ} → get_or t n 0 ≡ part 1 0 0 → Holds q t n any_step (n + 1)
  h_step : {n a : ℕ} {s : Text} → QueryTextAt q a s → get_or t n 0 ≡ part 2 a (length s) → Holds q t n (step s) (n + 1)
  h_iri : {n a : ℕ} {s : Text} → QueryTextAt q a s → get_or t n 0 ≡ part 3 a (length s) → Holds q t n (at_iri s) (n + 1)
  h_literal : {n a : ℕ} {s : Text} → QueryTextAt q a s → get_or t n 0 ≡ part 4 a (length s) → Holds q t n (at_literal s) (n + 1)
  h_nested : {n m : ℕ} {e : Expr} → Holds q t n e m → get_or t m 0 ≡ part 5 0 0 → Holds q t n (nested e) (m + 1)
  h_star : {n m : ℕ} {e : Expr} → Holds q t n e m → get_or t m 0 ≡ part 6 0 0 → Holds q t n (star e) (m + 1)
  h_sequence : {n m k : ℕ} {a b : Expr} → Holds q t n a m → Holds q t m b k → get_or t k 0 ≡ part 7 (m - 1) 0 → Holds q t n (sequence a b) (k + 1)
  h_union : {n m k : ℕ} {a b : Expr} → Holds q t n a m → Holds q t m b k → get_or t k 0 ≡ part 8 (m - 1) 0 → Holds q t n (union a b) (k + 1)
