-- The reading of a text as a function, which the readers in src/ follow. proofs/Agree.antt shows that it reads the
-- grammar. Assumes nothing.
use Rattle.std.specs.Prelude.{eqb, leb, length, take, drop, get_or, Bool, cond, ◌&&◌, [], ◌∷◌, ℕ, zero, suc}
use Rattle.std.proofs.Math.Option.{Option, none, some}
use Rattle.grammar.specs.Grammar.{
  Level,
  a_union,
  a_sequence,
  a_step,
  an_atom,
  bar,
  slash,
  asterisk,
  underscore,
  round_open,
  round_close,
  square_open,
  square_close,
  angle_open,
  angle_close,
  quote,
  letter,
  other,
  stars,
}
use Rattle.meaning.specs.Limits.{max_name_bytes, max_open_brackets, max_query_bytes}
use Rattle.meaning.specs.Pack.{Text}
use Rattle.meaning.specs.Query.{Expr, stay, step, any_step, at_iri, at_literal, nested, sequence, union}

-- An expression and the bytes after it, or a refusal.
pub data Out : Type 0 where
  bad : Out
  ok : Expr → Text → Out

abbrev pub no_byte : ℕ  -- stands after the end of a text
no_byte = 256

-- The next byte, or none at the end.
abbrev pub first : Text → ℕ
first s = get_or s 0 no_byte

-- How many bytes at the start pass the test.
unfoldable pub run : (ℕ → Bool) → Text → ℕ
run p [] = 0
run p (c ∷ s) = cond (p c) (suc (run p s)) 0

unfoldable pub joined : (Expr → Expr → Expr) → Expr → Out → Out
joined f a bad = bad
joined f a (ok b s) = ok (f a b) s

-- After a part: the separator and another part, at most k times.
unfoldable pub parts : ℕ → ℕ → (Expr → Expr → Expr) → (Text → Out) → Out → Out
parts zero sep f read o = o
parts (suc k) sep f read bad = bad
parts (suc k) sep f read (ok a s) = cond (eqb (first s) sep) (parts k sep f read (joined f a (read (drop 1 s)))) (ok a s)

unfoldable pub with_stars : Out → Out
with_stars bad = bad
with_stars (ok e s) = ok (stars (run (eqb asterisk) s) e) (drop (run (eqb asterisk) s) s)

-- After the inside of a bracket: its closing mark.
unfoldable pub closed : ℕ → (Expr → Expr) → Out → Out
closed mark f bad = bad
closed mark f (ok e s) = cond (eqb (first s) mark) (ok (f e) (drop 1 s)) bad

unfoldable pub label : ℕ → (Text → Expr) → Text → Out
label mark f s = cond (eqb (first (drop (run (other mark) s) s)) mark) (ok (f (take (run (other mark) s) s)) (drop 1 (drop (run (other mark) s) s))) bad

unfoldable pub name : Text → Out
name s = cond (leb 1 (run letter s) && leb (run letter s) max_name_bytes) (ok (step (take (run letter s) s)) (drop (run letter s) s)) bad

-- An atom with no bracket.
unfoldable pub leaf : Text → Out
leaf s =
    cond (eqb (first s) angle_open) (label angle_close at_iri (drop 1 s))
    (cond (eqb (first s) quote) (label quote at_literal (drop 1 s))
    (cond (eqb (first s) underscore) (ok any_step (drop 1 s))
    (name s)))

-- An atom, given what is read after an opening bracket. d brackets may still be opened.
unfoldable pub atom_of : ℕ → Text → Out → Out
atom_of d s o =
    cond (eqb (first s) round_open)
    (cond (eqb d 0) bad
    (cond (eqb (first (drop 1 s)) round_close) (ok stay (drop 2 s))
    (closed round_close (λ e. e) o)))
    (cond (eqb (first s) square_open)
    (cond (eqb d 0) bad
    (closed square_close nested o))
    (leaf s))

-- A step, a sequence and a union, given the reading of an atom.
unfoldable pub step_by : (Text → Out) → Text → Out
step_by atom s = with_stars (atom s)

unfoldable pub sequence_by : (Text → Out) → Text → Out
sequence_by atom s = parts (length s) slash sequence (step_by atom) (step_by atom s)

unfoldable pub union_by : (Text → Out) → Text → Out
union_by atom s = parts (length s) bar union (sequence_by atom) (sequence_by atom s)

-- Each bracket that is opened leaves one fewer.
unfoldable pub atom_at : ℕ → Text → Out
atom_at zero s = atom_of 0 s bad
atom_at (suc d) s = atom_of (suc d) s (union_by (atom_at d) (drop 1 s))

unfoldable pub parse : Level → ℕ → Text → Out
parse a_union d = union_by (atom_at d)
parse a_sequence d = sequence_by (atom_at d)
parse a_step d = step_by (atom_at d)
parse an_atom d = atom_at d

-- The whole text is read, or none of it.
unfoldable pub whole : Out → Option Expr
whole bad = none
whole (ok e []) = some e
whole (ok e (c ∷ s)) = none

-- The expression of a query.
unfoldable pub expression_of : Text → Option Expr
expression_of q = cond (leb (length q) max_query_bytes) (whole (parse a_union max_open_brackets q)) none
