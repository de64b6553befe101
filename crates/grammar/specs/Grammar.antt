-- The grammar of a query (document 01, "The query"). A text is a list of bytes. Assumes nothing.
use Rattle.std.specs.Prelude.{eqb, leb, length, replicate, Bool, true, not, ◌&&◌, [], ◌∷◌, ◌++◌, ◌≡◌, ℕ, zero, suc, ◌≤◌}
use Rattle.meaning.specs.Limits.{max_name_bytes, max_open_brackets, max_query_bytes}
use Rattle.meaning.specs.Pack.{Text}
use Rattle.meaning.specs.Query.{Expr, stay, step, any_step, at_iri, at_literal, nested, sequence, union, star}

-- ---- the marks

abbrev pub bar : ℕ  -- |
bar = 124

abbrev pub slash : ℕ  -- /
slash = 47

abbrev pub asterisk : ℕ  -- *
asterisk = 42

abbrev pub underscore : ℕ  -- _
underscore = 95

abbrev pub round_open : ℕ  -- (
round_open = 40

abbrev pub round_close : ℕ  -- )
round_close = 41

abbrev pub square_open : ℕ  -- [
square_open = 91

abbrev pub square_close : ℕ  -- ]
square_close = 93

abbrev pub angle_open : ℕ  -- <
angle_open = 60

abbrev pub angle_close : ℕ  -- >
angle_close = 62

abbrev pub quote : ℕ  -- "
quote = 34

-- ---- names and labels

-- "letters a to z"
abbrev pub letter : ℕ → Bool
letter c = leb 97 c && leb c 122

-- "bytes other than its closing mark"
abbrev pub other : ℕ → ℕ → Bool
other mark c = not (eqb c mark)

-- Every byte of the text passes the test.
pub data All (p : ℕ → Bool) : Text → Type 0 where
  none : All p []
  also : {c : ℕ} {s : Text} → p c ≡ true → All p s → All p (c ∷ s)

-- ---- the rules

pub data Level : Type 0 where
  a_union a_sequence a_step an_atom : Level

-- e under k stars
unfoldable pub stars : ℕ → Expr → Expr
stars zero e = e
stars (suc k) e = star (stars k e)

-- `Reads l d s e`: the text s is a union, a sequence, a step or an atom, its expression is e, and at most d brackets are
-- open in it at one time. ("Round and square brackets open at one time: at most 16, "()" included, those inside labels
-- not counted.") Three and more sequences or steps are grouped to the left, which joins the same nodes as any other way.
pub data Reads : Level → ℕ → Text → Expr → Type 0 where
  -- "a union is sequences parted by "|""
  one_sequence : {d : ℕ} {s : Text} {e : Expr} → Reads a_sequence d s e → Reads a_union d s e
  more_sequences : {d : ℕ} {s t : Text} {a b : Expr} → Reads a_union d s a → Reads a_sequence d t b → Reads a_union d (s ++ bar ∷ t) (union a b)
  -- "a sequence is steps parted by "/""
  one_step : {d : ℕ} {s : Text} {e : Expr} → Reads a_step d s e → Reads a_sequence d s e
  more_steps : {d : ℕ} {s t : Text} {a b : Expr} → Reads a_sequence d s a → Reads a_step d t b → Reads a_sequence d (s ++ slash ∷ t) (sequence a b)
  -- "a step is an atom and any number of "*""
  starred : {d : ℕ} {s : Text} {e : Expr} (k : ℕ) → Reads an_atom d s e → Reads a_step d (s ++ replicate k asterisk) (stars k e)
  -- "an atom is a predicate name (1 to 16 letters a to z)"
  a_name : {d : ℕ} {s : Text} → All letter s → 1 ≤ length s → length s ≤ max_name_bytes → Reads an_atom d s (step s)
  -- ""_" (any predicate)"
  an_any : {d : ℕ} → Reads an_atom d (underscore ∷ []) any_step
  -- ""()" (stay)"
  a_stay : {d : ℕ} → Reads an_atom (suc d) (round_open ∷ round_close ∷ []) stay
  -- ""(" union ")""
  a_group : {d : ℕ} {s : Text} {e : Expr} → Reads a_union d s e → Reads an_atom (suc d) (round_open ∷ (s ++ round_close ∷ [])) e
  -- ""[" union "]" (stay if a path exists)"
  a_test : {d : ℕ} {s : Text} {e : Expr} → Reads a_union d s e → Reads an_atom (suc d) (square_open ∷ (s ++ square_close ∷ [])) (nested e)
  -- ""<" label ">" (stay at that IRI)"
  an_iri : {d : ℕ} {s : Text} → All (other angle_close) s → Reads an_atom d (angle_open ∷ (s ++ angle_close ∷ [])) (at_iri s)
  -- "a label in double quotes (stay at that literal)"
  a_literal : {d : ℕ} {s : Text} → All (other quote) s → Reads an_atom d (quote ∷ (s ++ quote ∷ [])) (at_literal s)

-- The text is a query, an expression within its bounds: "1 to 256 bytes", a union, at most 16 brackets open.
pub record IsQuery (q : Text) (e : Expr) : Type 0 where
  pub some : 1 ≤ length q
  pub fits : length q ≤ max_query_bytes
  pub reads : Reads a_union max_open_brackets q e
