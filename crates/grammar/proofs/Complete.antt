-- The reading takes each part of the grammar off the front of a text, whatever fit byte follows it. Assumes nothing.
use borrow.Author.Tests.{eq-eqb, ne_eqb, le-leb}
use lib.Dec.{eqb, eqb-suc-zero}
use lib.ListN.{length, drop, replicate, length-append, length-replicate}
use lib.Seq.{take-append_seam, drop-append_seam}
use mathlib.Core.Bool.{true, false}
use mathlib.Core.List.{[], ◌∷◌, ◌++◌, append_assoc}
use mathlib.Core.Path.{◌≡◌, refl, sym, ap, ◌∙◌}
use native.Mathlib.Omega.{arith}
use Prim.Native.Nat.{ℕ, zero, suc, ◌≤◌}
use Rattle.meaning.specs.Limits.{max_name_bytes}
use Rattle.meaning.specs.Pack.{Text}
use Rattle.meaning.specs.Query.{Expr, stay, step, any_step, at_iri, at_literal, nested, sequence, union}
use Rattle.grammar.specs.Grammar.{
  Level,
  a_union,
  a_sequence,
  a_step,
  an_atom,
  bar,
  slash,
  asterisk,
  underscore,
  round_open,
  round_close,
  square_open,
  square_close,
  angle_open,
  angle_close,
  quote,
  letter,
  other,
  stars,
  All,
  none,
  also,
  Reads,
  one_sequence,
  more_sequences,
  one_step,
  more_steps,
  starred,
  a_name,
  an_any,
  a_stay,
  a_group,
  a_test,
  an_iri,
  a_literal,
}
use Rattle.grammar.specs.Parse.{Out, bad, ok, first, run, joined, parts, with_stars, closed, label, name, leaf, atom_of, step_by, sequence_by, union_by, atom_at, parse}
use Rattle.grammar.proofs.Bytes.{run_all, all_stars}

-- ---- parts and separators

-- What is left to do after the parts that make up e: enough turns, and the bytes r.
pub record Going (sep : ℕ) (f : Expr → Expr → Expr) (read : Text → Out) (e : Expr) (r : Text) (o : Out) : Type 0 where
  pub turns : ℕ
  pub enough : length r ≤ turns
  pub is : o ≡ parts turns sep f read (ok e r)

pub none_more : (k sep : ℕ) (f : Expr → Expr → Expr) (read : Text → Out) → parts k sep f read bad ≡ bad
unfolding parts
none_more zero sep f read = refl
none_more (suc k) sep f read = refl

pub going_ends : {sep : ℕ} {f : Expr → Expr → Expr} {read : Text → Out} {e : Expr} {r : Text} {o : Out} → Going sep f read e r o → eqb (first r) sep ≡ false → o ≡ ok e r
unfolding parts
going_ends {sep} {f} {read} {e} {r} g h = g.is ∙ stops g.turns
  where
    stops : (k : ℕ) → parts k sep f read (ok e r) ≡ ok e r
    stops zero = refl
    stops (suc k) = rw h

pub going_bad : {sep : ℕ} {f : Expr → Expr → Expr} {read : Text → Out} {e : Expr} {r : Text} {o : Out} → Going sep f read e r o → (s : Text)
    → r ≡ sep ∷ s → read s ≡ bad → o ≡ bad
unfolding parts joined
going_bad {sep} {f} {read} {e} {r} g s p q = g.is ∙ turn g.turns (let z = ap length p in let w = g.enough in omega arith)
  where
    turn : (k : ℕ) → 1 ≤ k → parts k sep f read (ok e r) ≡ bad
    turn zero h = absurd (omega arith)
    turn (suc k) h = rw (p, eq-eqb sep sep refl, q) (none_more k sep f read)

pub going_on : {sep : ℕ} {f : Expr → Expr → Expr} {read : Text → Out} {e : Expr} {r : Text} {o : Out} → Going sep f read e r o
    → (s : Text) → r ≡ sep ∷ s → (b : Expr) (r' : Text) → read s ≡ ok b r' → length r' ≤ length s → Going sep f read (f e b) r' o
unfolding parts joined
going_on {sep} {f} {read} {e} {r} {o} g s p b r' q le = turn g.turns (let z = ap length p in let w = g.enough in omega arith) g.is
  where
    turn : (k : ℕ) → suc (length s) ≤ k → o ≡ parts k sep f read (ok e r) → Going sep f read (f e b) r' o
    turn zero h w = absurd (omega arith)
    turn (suc k) h w = record { turns = k; enough = omega arith; is = w ∙ rw (p, eq-eqb sep sep refl, q) refl }

-- ---- atoms

-- A letter is no byte that is not one.
not_letter : (c m : ℕ) → letter c ≡ true → letter m ≡ false → eqb c m ≡ false
not_letter c m p q = ne_eqb c m (λ e. let z : true ≡ false = sym p ∙ ap letter e ∙ q in let w : ◌≡◌ {A = ℕ} 0 1 = cc in omega arith)

label_reads : (mark : ℕ) (f : Text → Expr) (t r : Text) → All (other mark) t → label mark f (t ++ mark ∷ r) ≡ ok (f t) r
unfolding label
label_reads mark f t r a =
    let h : other mark mark ≡ false = rw (eq-eqb mark mark refl) in
    let k : run (other mark) (t ++ mark ∷ r) ≡ length t = run_all a (mark ∷ r) h in
    rw (k, drop-append_seam, take-append_seam, eq-eqb mark mark refl)

name_reads : (t r : Text) → All letter t → 1 ≤ length t → length t ≤ max_name_bytes → letter (first r) ≡ false → name (t ++ r) ≡ ok (step t) r
unfolding name
name_reads t r a lo hi h =
    let k : run letter (t ++ r) ≡ length t = run_all a r h in
    rw (k, drop-append_seam, take-append_seam, le-leb 1 (length t) lo, le-leb (length t) max_name_bytes hi)

module _ (d : ℕ) (o : Out) where
  name_atom : (t r : Text) → All letter t → 1 ≤ length t → length t ≤ max_name_bytes → letter (first r) ≡ false → atom_of d (t ++ r) o ≡ ok (step t) r
  unfolding atom_of leaf
  name_atom [] r none lo hi h = absurd (omega arith)
  name_atom (c ∷ t) r (also e a) lo hi h =
      rw (
        not_letter c round_open e refl,
        not_letter c square_open e refl,
        not_letter c angle_open e refl,
        not_letter c quote e refl,
        not_letter c underscore e refl,
        name_reads (c ∷ t) r (also e a) lo hi h,
      )

  any_atom : (r : Text) → atom_of d (underscore ∷ r) o ≡ ok any_step r
  unfolding atom_of leaf
  any_atom r = refl

  iri_atom : (t r : Text) → All (other angle_close) t → atom_of d (angle_open ∷ (t ++ angle_close ∷ r)) o ≡ ok (at_iri t) r
  unfolding atom_of leaf
  iri_atom t r a = label_reads angle_close at_iri t r a

  literal_atom : (t r : Text) → All (other quote) t → atom_of d (quote ∷ (t ++ quote ∷ r)) o ≡ ok (at_literal t) r
  unfolding atom_of leaf
  literal_atom t r a = label_reads quote at_literal t r a

  stay_atom : (r : Text) → atom_of (suc d) (round_open ∷ round_close ∷ r) o ≡ ok stay r
  unfolding atom_of
  stay_atom r = rw (eqb-suc-zero d)

  group_atom : (s r : Text) (e : Expr) → eqb (first (s ++ round_close ∷ r)) round_close ≡ false → o ≡ ok e (round_close ∷ r)
      → atom_of (suc d) (round_open ∷ (s ++ round_close ∷ r)) o ≡ ok e r
  unfolding atom_of closed
  group_atom s r e h p = rw (eqb-suc-zero d, h, p)

  test_atom : (s r : Text) (e : Expr) → o ≡ ok e (square_close ∷ r) → atom_of (suc d) (square_open ∷ (s ++ square_close ∷ r)) o ≡ ok (nested e) r
  unfolding atom_of closed
  test_atom s r e p = rw (eqb-suc-zero d, p)

-- Whatever is read after an opening bracket.
pub atom_opens : (d : ℕ) (s : Text) → (o : Out) × (parse an_atom d s ≡ atom_of d s o)
unfolding parse atom_at
atom_opens zero s = (bad, refl)
atom_opens (suc d) s = (union_by (atom_at d) (drop 1 s), refl)

pub atom_bracket : (d : ℕ) (s : Text) → parse an_atom (suc d) s ≡ atom_of (suc d) s (parse a_union d (drop 1 s))
unfolding parse atom_at
atom_bracket d s = refl

-- No part begins with a closing bracket.
starts : {l : Level} {d : ℕ} {t : Text} {e : Expr} → Reads l d t e → (r : Text) → eqb (first (t ++ r)) round_close ≡ false
starts (one_sequence x) r = starts x r
starts (more_sequences {s = s} {t = t} x y) r = rw (append_assoc s (bar ∷ t) r) (starts x (bar ∷ (t ++ r)))
starts (one_step x) r = starts x r
starts (more_steps {s = s} {t = t} x y) r = rw (append_assoc s (slash ∷ t) r) (starts x (slash ∷ (t ++ r)))
starts (starred {s = s} k x) r = rw (append_assoc s (replicate k asterisk) r) (starts x (replicate k asterisk ++ r))
starts (a_name none lo hi) r = absurd (omega arith)
starts (a_name (also {c = c} e a) lo hi) r = not_letter c round_close e refl
starts an_any r = refl
starts a_stay r = refl
starts (a_group x) r = refl
starts (a_test x) r = refl
starts (an_iri a) r = refl
starts (a_literal a) r = refl

-- ---- stars

stars_read : (o : Out) (e : Expr) (k : ℕ) (r : Text) → eqb asterisk (first r) ≡ false → o ≡ ok e (replicate k asterisk ++ r) → with_stars o ≡ ok (stars k e) r
unfolding with_stars
stars_read o e k r h p =
    let n : run (eqb asterisk) (replicate k asterisk ++ r) ≡ k = run_all (all_stars k) r h ∙ length-replicate k asterisk in
    let w : drop k (replicate k asterisk ++ r) ≡ r = ap (λ (i : ℕ). drop i (replicate k asterisk ++ r)) (sym (length-replicate k asterisk)) ∙ drop-append_seam (replicate k asterisk) r in
    rw (p, n, w)

-- The byte after a run of stars follows an atom: a star is no letter, and neither is what follows the step.
follow_stars : (k : ℕ) (r : Text) → letter (first r) ≡ false → letter (first (replicate k asterisk ++ r)) ≡ false
follow_stars zero r h = h
follow_stars (suc k) r h = refl

-- ---- the four levels

-- What may stand after a part: no byte that the last atom, step or sequence in it would go on with.
abbrev pub Follows : Level → ℕ → Type 0
Follows an_atom c = letter c ≡ false
Follows a_step c = (letter c ≡ false) × (eqb asterisk c ≡ false)
Follows a_sequence c = (letter c ≡ false) × (eqb asterisk c ≡ false)
Follows a_union c = (letter c ≡ false) × (eqb asterisk c ≡ false) × (eqb c slash ≡ false)

-- The expression e is read, and the bytes r are left. A union or a sequence may go on there.
abbrev pub Leaves : Level → ℕ → Expr → Text → Out → Type 0
Leaves an_atom d e r o = o ≡ ok e r
Leaves a_step d e r o = o ≡ ok e r
Leaves a_sequence d e r o = Going slash sequence (parse a_step d) e r o
Leaves a_union d e r o = Going bar union (parse a_sequence d) e r o

pub union_starts : (d : ℕ) (s : Text) (e : Expr) (r : Text) → parse a_sequence d s ≡ ok e r → length r ≤ length s → Leaves a_union d e r (parse a_union d s)
unfolding parse union_by
union_starts d s e r h le = record { turns = length s; enough = le; is = ap (λ (o : Out). parts (length s) bar union (sequence_by (atom_at d)) o) h }

pub sequence_starts : (d : ℕ) (s : Text) (e : Expr) (r : Text) → parse a_step d s ≡ ok e r → length r ≤ length s → Leaves a_sequence d e r (parse a_sequence d s)
unfolding parse sequence_by
sequence_starts d s e r h le = record { turns = length s; enough = le; is = ap (λ (o : Out). parts (length s) slash sequence (step_by (atom_at d)) o) h }

pub step_stars : (d : ℕ) (s : Text) → parse a_step d s ≡ with_stars (parse an_atom d s)
unfolding parse step_by
step_stars d s = refl

pub complete : {l : Level} {d : ℕ} {t : Text} {e : Expr} → Reads l d t e → (r : Text) → Follows l (first r) → Leaves l d e r (parse l d (t ++ r))
complete (one_sequence {d = d} {s = s} {e = e} x) r w =
    let n = length-append s r in
    union_starts d (s ++ r) e r (going_ends (complete x r (w.0, w.1)) w.2) (omega arith)
complete (more_sequences {d = d} {s = s} {t = t} {a = a} {b = b} x y) r w =
    let n = length-append t r in
    rw (append_assoc s (bar ∷ t) r) (going_on (complete x (bar ∷ (t ++ r)) (refl, refl, refl)) (t ++ r) refl b r (going_ends (complete y r (w.0, w.1)) w.2) (omega arith))
complete (one_step {d = d} {s = s} {e = e} x) r w =
    let n = length-append s r in
    sequence_starts d (s ++ r) e r (complete x r w) (omega arith)
complete (more_steps {d = d} {s = s} {t = t} {a = a} {b = b} x y) r w =
    let n = length-append t r in
    rw (append_assoc s (slash ∷ t) r) (going_on (complete x (slash ∷ (t ++ r)) (refl, refl)) (t ++ r) refl b r (complete y r w) (omega arith))
complete (starred {d = d} {s = s} {e = e} k x) r w =
    rw (append_assoc s (replicate k asterisk) r) (step_stars d (s ++ (replicate k asterisk ++ r))
    ∙ stars_read (parse an_atom d (s ++ (replicate k asterisk ++ r))) e k r w.1 (complete x (replicate k asterisk ++ r) (follow_stars k r w.0)))
complete (a_name {d = d} {s = s} a lo hi) r w = let (o, p) = atom_opens d (s ++ r) in p ∙ name_atom d o s r a lo hi w
complete (an_any {d = d}) r w = let (o, p) = atom_opens d (underscore ∷ r) in p ∙ any_atom d o r
complete (a_stay {d = d}) r w = atom_bracket d (round_open ∷ round_close ∷ r) ∙ stay_atom d (parse a_union d (round_close ∷ r)) r
complete (a_group {d = d} {s = s} {e = e} x) r w =
    rw (append_assoc s (round_close ∷ []) r) (atom_bracket d (round_open ∷ (s ++ round_close ∷ r))
    ∙ group_atom d (parse a_union d (s ++ round_close ∷ r)) s r e (starts x (round_close ∷ r)) (going_ends (complete x (round_close ∷ r) (refl, refl, refl)) refl))
complete (a_test {d = d} {s = s} {e = e} x) r w =
    rw (append_assoc s (square_close ∷ []) r) (atom_bracket d (square_open ∷ (s ++ square_close ∷ r))
    ∙ test_atom d (parse a_union d (s ++ square_close ∷ r)) s r e (going_ends (complete x (square_close ∷ r) (refl, refl, refl)) refl))
complete (an_iri {d = d} {s = s} a) r w =
    let (o, p) = atom_opens d (angle_open ∷ (s ++ angle_close ∷ r)) in
    rw (append_assoc s (angle_close ∷ []) r) (p ∙ iri_atom d o s r a)
complete (a_literal {d = d} {s = s} a) r w =
    let (o, p) = atom_opens d (quote ∷ (s ++ quote ∷ r)) in
    rw (append_assoc s (quote ∷ []) r) (p ∙ literal_atom d o s r a)
