-- What the reading takes off the front of a text is in the grammar, with the expression that it gives. Assumes nothing.
use borrow.Author.Tests.{eqb-true, leb-true}
use lib.Dec.{eqb, eqb-suc-zero, leb, lit<}
use lib.ListN.{length, take, drop, replicate, take-append-drop, length-take}
use mathlib.Core.Bool.{Bool, true, false, cond, ◌&&◌}
use mathlib.Core.List.{[], ◌∷◌, ◌++◌, append_assoc}
use mathlib.Core.Path.{◌≡◌, refl, sym, ap, subst, ◌∙◌}
use native.Mathlib.Omega.{arith}
use Prim.Native.Nat.{ℕ, zero, suc, ◌<◌}
use Rattle.grammar.specs.Grammar.{
  Level,
  a_union,
  a_sequence,
  a_step,
  an_atom,
  bar,
  slash,
  asterisk,
  underscore,
  round_open,
  round_close,
  square_open,
  square_close,
  angle_open,
  angle_close,
  quote,
  letter,
  other,
  stars,
  All,
  Reads,
  one_sequence,
  more_sequences,
  one_step,
  more_steps,
  starred,
  a_name,
  an_any,
  a_stay,
  a_group,
  a_test,
  an_iri,
  a_literal,
}
use Rattle.grammar.specs.Parse.{atom_at, atom_of, bad, closed, first, joined, label, leaf, name, no_byte, ok, Out, parse, parts, run, sequence_by, step_by, union_by, with_stars}
use Rattle.meaning.specs.Limits.{max_name_bytes}
use Rattle.meaning.specs.Pack.{Text}
use Rattle.meaning.specs.Query.{Expr, stay, step, any_step, at_iri, at_literal, nested, sequence, union}
use Rattle.grammar.proofs.Bytes.{uncons, run_le, all_take, stars_take}
use Rattle.meaning.proofs.Cases.{and_both}

pub never : {e : Expr} {s : Text} → bad ≡ ok e s → ⊥
never h = let z : ◌≡◌ {A = ℕ} 0 1 = cc in omega arith

-- What was found at the front of s.
abbrev pub Found : Level → ℕ → Text → Expr → Text → Type 0
Found l d s e r = (t : Text) × (s ≡ t ++ r) × Reads l d t e

-- Whatever the reading gives was found.
abbrev pub Finds : Level → ℕ → Text → Out → Type 0
Finds l d s o = (e : Expr) (r : Text) → o ≡ ok e r → Found l d s e r

-- ---- parts and a separator between them

join : (t u s s' r : Text) (sep : ℕ) → s ≡ t ++ s' → first s' ≡ sep → sep < no_byte → drop 1 s' ≡ u ++ r → s ≡ (t ++ sep ∷ u) ++ r
join t u s s' r sep p q lt w = p ∙ ap (λ (x : Text). t ++ x) (uncons s' sep q lt ∙ ap (λ (x : Text). sep ∷ x) w) ∙ sym (append_assoc t (sep ∷ u) r)

module _ (l m : Level) (d sep : ℕ) (f : Expr → Expr → Expr) (lt : sep < no_byte)
    (rule : (t u : Text) (a b : Expr) → Reads l d t a → Reads m d u b → Reads l d (t ++ sep ∷ u) (f a b))
    (read : Text → Out) (reads : (s : Text) → Finds m d s (read s)) (s : Text) where
  joined_found : (a : Expr) (s' : Text) → Found l d s a s' → first s' ≡ sep → (o : Out) → Finds m d (drop 1 s') o → Finds l d s (joined f a o)
  unfolding joined
  joined_found a s' x g bad part e r h = absurd (never h)
  joined_found a s' (t, p, x) g (ok b r') part e r h =
      let (u, w, y) = part b r' refl in
      let z : f a b ≡ e = cc in
      let v : r' ≡ r = cc in
      (t ++ sep ∷ u, join t u s s' r sep p g lt (w ∙ ap (λ (y : Text). u ++ y) v), subst (λ (n : Expr). Reads l d (t ++ sep ∷ u) n) z (rule t u a b x y))

  parts_found : (k : ℕ) (o : Out) → Finds l d s o → Finds l d s (parts k sep f read o)
  unfolding parts
  parts_found zero o part e r h = part e r h
  parts_found (suc k) bad part e r h = absurd (never h)
  parts_found (suc k) (ok a s') part e r h = go (eqb (first s') sep) refl (λ x. parts_found k (joined f a (read (drop 1 s'))) x e r) h
    where
      go : (b : Bool) → eqb (first s') sep ≡ b → (Finds l d s (joined f a (read (drop 1 s'))) → parts k sep f read (joined f a (read (drop 1 s'))) ≡ ok e r → Found l d s e r)
          → cond b (parts k sep f read (joined f a (read (drop 1 s')))) (ok a s') ≡ ok e r → Found l d s e r
      go false q again h = part e r h
      go true q again h = again (joined_found a s' (part a s' refl) (eqb-true _ _ q) (read (drop 1 s')) (reads (drop 1 s'))) h

-- ---- stars, labels, names

stars_found : (d : ℕ) (s : Text) (o : Out) → Finds an_atom d s o → Finds a_step d s (with_stars o)
unfolding with_stars
stars_found d s bad part e r h = absurd (never h)
stars_found d s (ok a s') part e r h =
    let (t, z, x) = part a s' refl in
    let k = run (eqb asterisk) s' in
    let q : stars k a ≡ e = cc in
    let w : drop k s' ≡ r = cc in (
      t ++ replicate k asterisk,
      z ∙ ap (λ (y : Text). t ++ y) (sym (take-append-drop k s') ∙ ap (λ (y : Text). y ++ drop k s') (stars_take s')
          ∙ ap (λ (y : Text). replicate k asterisk ++ y) w) ∙ sym (append_assoc t (replicate k asterisk) r),
      subst (λ (y : Expr). Reads a_step d (t ++ replicate k asterisk) y) q (starred k x),
    )

-- Behind its opening mark: a label and its closing mark.
label_found : (opens mark d : ℕ) → opens < no_byte → mark < no_byte → (f : Text → Expr)
    → ((t : Text) → All (other mark) t → Reads an_atom d (opens ∷ (t ++ mark ∷ [])) (f t))
    → (s : Text) → first s ≡ opens → Finds an_atom d s (label mark f (drop 1 s))
unfolding label
label_found opens mark d lo lm f rule s o e r h = go (eqb (first (drop k u)) mark) refl h
  where
    u : Text
    u = drop 1 s

    k : ℕ
    k = run (other mark) u

    go : (b : Bool) → eqb (first (drop k u)) mark ≡ b → cond b (ok (f (take k u)) (drop 1 (drop k u))) bad ≡ ok e r → Found an_atom d s e r
    go false q h = absurd (never h)
    go true q h =
        let w : drop 1 (drop k u) ≡ r = cc in
        let v : f (take k u) ≡ e = cc in
        let z : u ≡ take k u ++ mark ∷ r = sym (take-append-drop k u) ∙ ap (λ (y : Text). take k u ++ y) (uncons (drop k u) mark (eqb-true _ _ q) lm ∙ ap (λ (y : Text). mark ∷ y) w) in (
          opens ∷ (take k u ++ mark ∷ []),
          uncons s opens o lo ∙ ap (λ (y : Text). opens ∷ y) (z ∙ sym (append_assoc (take k u) (mark ∷ []) r)),
          subst (λ (y : Expr). Reads an_atom d (opens ∷ (take k u ++ mark ∷ [])) y) v (rule (take k u) (all_take (other mark) u)),
        )

name_found : (d : ℕ) (s : Text) → Finds an_atom d s (name s)
unfolding name
name_found d s e r h = go (leb 1 k && leb k max_name_bytes) refl h
  where
    k : ℕ
    k = run letter s

    go : (b : Bool) → (leb 1 k && leb k max_name_bytes) ≡ b → cond b (ok (step (take k s)) (drop k s)) bad ≡ ok e r → Found an_atom d s e r
    go false q h = absurd (never h)
    go true q h =
        let w : drop k s ≡ r = cc in
        let v : step (take k s) ≡ e = cc in
        let b = and_both (leb 1 k) (leb k max_name_bytes) q in
        let lo = leb-true 1 k b.0 in
        let hi = leb-true k max_name_bytes b.1 in
        let n : length (take k s) ≡ k = simp length-take (omega (arith, run_le letter s)) in
        (take k s, sym (take-append-drop k s) ∙ ap (λ (y : Text). take k s ++ y) w, subst (λ (y : Expr). Reads an_atom d (take k s) y) v (a_name (all_take letter s) (omega arith) (omega arith)))

leaf_found : (d : ℕ) (s : Text) → Finds an_atom d s (leaf s)
unfolding leaf
leaf_found d s e r h = angle (eqb (first s) angle_open) refl h
  where
    wild : (b : Bool) → eqb (first s) underscore ≡ b → cond b (ok any_step (drop 1 s)) (name s) ≡ ok e r → Found an_atom d s e r
    wild true q h =
        let w : drop 1 s ≡ r = cc in
        let v : any_step ≡ e = cc in
        (underscore ∷ [], uncons s underscore (eqb-true _ _ q) (lit< tt) ∙ ap (λ (y : Text). underscore ∷ y) w, subst (λ (y : Expr). Reads an_atom d (underscore ∷ []) y) v an_any)
    wild false q h = name_found d s e r h

    quoted : (b : Bool) → eqb (first s) quote ≡ b
        → cond b (label quote at_literal (drop 1 s)) (cond (eqb (first s) underscore) (ok any_step (drop 1 s)) (name s)) ≡ ok e r → Found an_atom d s e r
    quoted true q h = label_found quote quote d (lit< tt) (lit< tt) at_literal (λ t a. a_literal a) s (eqb-true _ _ q) e r h
    quoted false q h = wild (eqb (first s) underscore) refl h

    angle : (b : Bool) → eqb (first s) angle_open ≡ b
        → cond b (label angle_close at_iri (drop 1 s))
        (cond (eqb (first s) quote) (label quote at_literal (drop 1 s)) (cond (eqb (first s) underscore) (ok any_step (drop 1 s)) (name s))) ≡ ok e r
        → Found an_atom d s e r
    angle true q h = label_found angle_open angle_close d (lit< tt) (lit< tt) at_iri (λ t a. an_iri a) s (eqb-true _ _ q) e r h
    angle false q h = quoted (eqb (first s) quote) refl h

-- ---- brackets

closed_found : (opens mark d : ℕ) (f : Expr → Expr) (s : Text) → opens < no_byte → mark < no_byte → first s ≡ opens
    → ((t : Text) (e : Expr) → Reads a_union d t e → Reads an_atom (suc d) (opens ∷ (t ++ mark ∷ [])) (f e))
    → (o : Out) → Finds a_union d (drop 1 s) o → Finds an_atom (suc d) s (closed mark f o)
unfolding closed
closed_found opens mark d f s lo lm q rule bad part e r h = absurd (never h)
closed_found opens mark d f s lo lm q rule (ok a s') part e r h = go (eqb (first s') mark) refl h
  where
    go : (b : Bool) → eqb (first s') mark ≡ b → cond b (ok (f a) (drop 1 s')) bad ≡ ok e r → Found an_atom (suc d) s e r
    go false g h = absurd (never h)
    go true g h =
        let (t, z, x) = part a s' refl in
        let v : f a ≡ e = cc in
        let w : drop 1 s' ≡ r = cc in (
          opens ∷ (t ++ mark ∷ []),
          uncons s opens q lo ∙ ap (λ (y : Text). opens ∷ y)
              (z ∙ ap (λ (y : Text). t ++ y) (uncons s' mark (eqb-true _ _ g) lm ∙ ap (λ (y : Text). mark ∷ y) w) ∙ sym (append_assoc t (mark ∷ []) r)),
          subst (λ (y : Expr). Reads an_atom (suc d) (opens ∷ (t ++ mark ∷ [])) y) v (rule t a x),
        )

drop_two : (l : Text) → drop 1 (drop 1 l) ≡ drop 2 l
drop_two [] = refl
drop_two (x ∷ []) = refl
drop_two (x ∷ y ∷ l) = refl

-- Where no bracket may be opened, and where one may.
atom_none : (s : Text) (o : Out) → Finds an_atom 0 s (atom_of 0 s o)
unfolding atom_of
atom_none s o e r h = round (eqb (first s) round_open) refl h
  where
    square : (b : Bool) → eqb (first s) square_open ≡ b → cond b bad (leaf s) ≡ ok e r → Found an_atom 0 s e r
    square true q h = absurd (never h)
    square false q h = leaf_found 0 s e r h

    round : (b : Bool) → eqb (first s) round_open ≡ b → cond b bad (cond (eqb (first s) square_open) bad (leaf s)) ≡ ok e r → Found an_atom 0 s e r
    round true q h = absurd (never h)
    round false q h = square (eqb (first s) square_open) refl h

atom_some : (d : ℕ) (s : Text) (o : Out) → Finds a_union d (drop 1 s) o → Finds an_atom (suc d) s (atom_of (suc d) s o)
unfolding atom_of
atom_some d s o part e r h = round (eqb (first s) round_open) refl (rw (eqb-suc-zero d) at h)
  where
    square : (b : Bool) → eqb (first s) square_open ≡ b → cond b (closed square_close nested o) (leaf s) ≡ ok e r → Found an_atom (suc d) s e r
    square true q h = closed_found square_open square_close d nested s (lit< tt) (lit< tt) (eqb-true _ _ q) (λ t e x. a_test x) o part e r h
    square false q h = leaf_found (suc d) s e r h

    inside : (b : Bool) → eqb (first (drop 1 s)) round_close ≡ b → first s ≡ round_open → cond b (ok stay (drop 2 s)) (closed round_close (λ x. x) o) ≡ ok e r → Found an_atom (suc d) s e r
    inside true g q h =
        let w : drop 2 s ≡ r = cc in
        let v : stay ≡ e = cc in (
          round_open ∷ round_close ∷ [],
          uncons s round_open q (lit< tt) ∙ ap (λ (y : Text). round_open ∷ y) (uncons (drop 1 s) round_close (eqb-true _ _ g) (lit< tt) ∙ ap (λ (y : Text). round_close ∷ y) (drop_two s ∙ w)),
          subst (λ (y : Expr). Reads an_atom (suc d) (round_open ∷ round_close ∷ []) y) v a_stay,
        )
    inside false g q h = closed_found round_open round_close d (λ x. x) s (lit< tt) (lit< tt) q (λ t e x. a_group x) o part e r h

    round : (b : Bool) → eqb (first s) round_open ≡ b
        → cond b (cond (eqb (first (drop 1 s)) round_close) (ok stay (drop 2 s)) (closed round_close (λ x. x) o))
        (cond (eqb (first s) square_open) (closed square_close nested o) (leaf s)) ≡ ok e r → Found an_atom (suc d) s e r
    round true q h = inside (eqb (first (drop 1 s)) round_close) refl (eqb-true _ _ q) h
    round false q h = square (eqb (first s) square_open) refl h

-- ---- the four levels

module _ (d : ℕ) (atom : Text → Out) (finds : (s : Text) → Finds an_atom d s (atom s)) where
  step_found : (s : Text) → Finds a_step d s (step_by atom s)
  unfolding step_by
  step_found s = stars_found d s (atom s) (finds s)

  sequence_found : (s : Text) → Finds a_sequence d s (sequence_by atom s)
  unfolding sequence_by
  sequence_found s = parts_found a_sequence a_step d slash sequence (lit< tt) (λ t u a b x y. more_steps x y) (step_by atom) step_found s (length s) (step_by atom s)
      (λ e r h. let (t, p, x) = step_found s e r h in (t, p, one_step x))

  union_found : (s : Text) → Finds a_union d s (union_by atom s)
  unfolding union_by
  union_found s = parts_found a_union a_sequence d bar union (lit< tt) (λ t u a b x y. more_sequences x y) (sequence_by atom) sequence_found s (length s) (sequence_by atom s)
      (λ e r h. let (t, p, x) = sequence_found s e r h in (t, p, one_sequence x))

atom_found : (d : ℕ) (s : Text) → Finds an_atom d s (atom_at d s)
unfolding atom_at
atom_found zero s = atom_none s bad
atom_found (suc d) s = atom_some d s (union_by (atom_at d) (drop 1 s)) (union_found d (atom_at d) (atom_found d) (drop 1 s))

pub sound : (l : Level) (d : ℕ) (s : Text) → Finds l d s (parse l d s)
unfolding parse
sound a_union d s = union_found d (atom_at d) (atom_found d) s
sound a_sequence d s = sequence_found d (atom_at d) (atom_found d) s
sound a_step d s = step_found d (atom_at d) (atom_found d) s
sound an_atom d s = atom_found d s
