-- How the reading of a whole is made from the readings of its parts. Assumes nothing.
use borrow.Author.Tests.{eq-eqb, ne_eqb}
use lib.Dec.{lit<}
use lib.ListN.{length, drop, get_or, set, length-drop}
use lib.Seq.{drop-drop, get_or-set_same, get_or-set_other}
use mathlib.Core.List.{List, ◌∷◌}
use mathlib.Core.Path.{◌≡◌, refl, sym, ap, subst, ◌∙◌}
use native.Mathlib.Nat.{add-zero}
use native.Mathlib.Omega.{arith}
use Prim.Native.Nat.{ℕ, zero, suc, ◌+◌, ◌-◌, ◌≤◌, ◌<◌}
use Rattle.grammar.proofs.Bytes.{uncons, first_drop, get_d_within, run_le}
use Rattle.grammar.proofs.Complete.{Going, none_more, going_ends, going_bad, going_on, union_starts, sequence_starts, step_stars, atom_bracket, atom_opens}
use Rattle.grammar.specs.Grammar.{a_union, a_sequence, a_step, an_atom, stars, bar, slash, round_open, round_close, square_open, square_close}
use Rattle.grammar.specs.Parse.{atom_of, bad, closed, leaf, no_byte, ok, Out, parse, parts, run, sequence_by, union_by, with_stars}
use Rattle.meaning.specs.Pack.{Text}
use Rattle.meaning.specs.Query.{Expr, stay, nested, sequence, star, union}
use Rattle.std.specs.Prelude.{Option, Some, None}
use Rattle.query.specs.Reading.{class, CanRead, StarsPut, Reading}
use Rattle.query.specs.Tree.{part, Holds, h_stay, h_nested, h_star}
use Rattle.query.proofs.LeafLaws.{refuse, store, reread}
use Rattle.query.proofs.TreeLaws.{holds_lt, holds_kept}

-- ---- what is held

-- Stars behind what is held.
holds_stars : {q t : List ℕ} {n m : ℕ} {e : Expr} → Holds q t n e m → (k : ℕ) → ((x : ℕ) → m ≤ x → x < m + k → get_or t x 0 ≡ part 6 0 0) → Holds q t n (stars k e) (m + k)
unfolding stars
holds_stars {m} h zero s = rw (add-zero m) h
holds_stars {q} {t} {n} {m} {e} h (suc k) s =
    let z : m + k + 1 ≡ m + suc k = omega arith in
    subst (λ (x : ℕ). Holds q t n (star (stars k e)) x) z (h_star (holds_stars h k (λ x a b. s x a (omega arith))) (s (m + k) (omega arith) (omega arith)))

-- The same reading, with what was kept before it.
pub since : {q t t₁ t' : List ℕ} {i n : ℕ} {r : Option (ℕ × ℕ)} {o : Out} → ((x : ℕ) → x < n → get_or t₁ x 0 ≡ get_or t x 0)
    → Reading q t₁ t' i n r o → Reading q t t' i n r o
since k g = record { kept = λ x h. g.kept x h ∙ k x h; tells = g.tells }

-- ---- parts and separators

-- Where a loop over parts stands: the parts of t from n up to m hold those read so far, and the bytes from j on are left.
pub record Partly (q t₀ t : List ℕ) (i n j m sep : ℕ) (f : Expr → Expr → Expr) (read : Text → Out) (o : Out) : Type 0 where
  pub expr : Expr
  pub going : Going sep f read expr (drop j q) o
  pub holds : Holds q t n expr m
  pub kept : (x : ℕ) → x < n → get_or t x 0 ≡ get_or t₀ x 0
  pub moved : i < j
  pub within : j ≤ length q
  pub few : m + i ≤ n + j
  pub some : n < m

-- After the first part.
partly_start : (q t t₁ : List ℕ) (i n sep : ℕ) (p : ℕ × ℕ) (f : Expr → Expr → Expr) (read : Text → Out) (o first : Out)
    → Reading q t t₁ i n (Some p) first
    → ((e : Expr) → first ≡ ok e (drop p.0 q) → length (drop p.0 q) ≤ length (drop i q) → Going sep f read e (drop p.0 q) o)
    → Partly q t₁ t₁ i n p.0 p.1 sep f read o
partly_start q t t₁ i n sep p f read o first r starts =
    let s = r.tells in
    let a = length-drop i q in
    let b = length-drop p.0 q in
    let mv = s.moved in
    record { expr = s.expr; going = starts s.expr s.gives (omega arith); holds = s.holds; kept = λ x h. refl; moved = s.moved; within = s.within; few = s.few; some = holds_lt s.holds }

module _ {q t₀ t : List ℕ} {i n j m sep : ℕ} {f : Expr → Expr → Expr} {read : Text → Out} {o : Out} (p : Partly q t₀ t i n j m sep f read o) where
  pub partly_done : (get_or q j no_byte ≡ sep → ⊥) → Reading q t₀ t i n (Some (j, m)) o
  partly_done ne = record {
    kept = p.kept;
    tells = record { expr = p.expr; gives = going_ends p.going (rw (first_drop q j) (ne_eqb (get_or q j no_byte) sep ne)); holds = p.holds; moved = p.moved; within = p.within; few = p.few };
  }

  module _ (lt : sep < no_byte) (c : get_or q j no_byte ≡ sep) where
    left : drop j q ≡ sep ∷ drop (j + 1) q
    left = uncons (drop j q) sep (first_drop q j ∙ c) lt ∙ ap (λ (x : Text). sep ∷ x) (drop-drop 1 j q)

    kept_both : {t₁ : List ℕ} {r : Option (ℕ × ℕ)} → Reading q t t₁ (j + 1) m r (read (drop (j + 1) q)) → (x : ℕ) → x < n → get_or t₁ x 0 ≡ get_or t₀ x 0
    kept_both r x h = let w = p.some in r.kept x (omega arith) ∙ p.kept x h

    pub partly_refused : {t₁ : List ℕ} → Reading q t t₁ (j + 1) m None (read (drop (j + 1) q)) → Reading q t₀ t₁ i n None o
    partly_refused {t₁} r = refuse q t₀ t₁ i n o (kept_both r) (going_bad p.going (drop (j + 1) q) left r.tells)

    module _ {t₁ : List ℕ} {z : ℕ × ℕ} (r : Reading q t t₁ (j + 1) m (Some z) (read (drop (j + 1) q))) where
      abbrev j₁ : ℕ
      j₁ = z.0

      abbrev m₁ : ℕ
      m₁ = z.1

      pub partly_more : (kind : ℕ) {v : ℕ} → v ≡ part kind (m - 1) 0 → m₁ < length t₁
          → ((t : List ℕ) (a b : Expr) → Holds q t n a m → Holds q t m b m₁ → get_or t m₁ 0 ≡ part kind (m - 1) 0 → Holds q t n (f a b) (m₁ + 1))
          → Partly q t₀ (set t₁ m₁ v) i n j₁ (m₁ + 1) sep f read o
      partly_more kind {v} u room rule =
          let s = r.tells in
          let w = holds_lt s.holds in
          let a = length-drop (j + 1) q in
          let b = length-drop j₁ q in
          let mv = s.moved in
          let pm = p.moved in
          let pf = p.few in
          let sf = s.few in
          let ps = p.some in
          record {
            expr = f p.expr s.expr;
            going = going_on p.going (drop (j + 1) q) left s.expr (drop j₁ q) s.gives (omega arith);
            holds = rule (set t₁ m₁ v) p.expr s.expr
                (holds_kept p.holds (set t₁ m₁ v) (λ x y. get_or-set_other t₁ m₁ x v 0 (λ z. omega arith) ∙ r.kept x y))
                (holds_kept s.holds (set t₁ m₁ v) (λ x y. get_or-set_other t₁ m₁ x v 0 (λ z. omega arith)))
                (get_or-set_same t₁ m₁ v 0 room ∙ u);
            kept = λ x h. get_or-set_other t₁ m₁ x v 0 (λ z. omega arith) ∙ kept_both r x h;
            moved = omega arith;
            within = s.within;
            few = omega arith;
            some = omega arith;
          }

-- The union of sequences, and the sequence of steps.
abbrev pub Sequences : List ℕ → List ℕ → List ℕ → ℕ → ℕ → ℕ → ℕ → ℕ → Type 0
Sequences q t₀ t i n d j m = Partly q t₀ t i n j m bar union (parse a_sequence d) (parse a_union d (drop i q))

abbrev pub Steps : List ℕ → List ℕ → List ℕ → ℕ → ℕ → ℕ → ℕ → ℕ → Type 0
Steps q t₀ t i n d j m = Partly q t₀ t i n j m slash sequence (parse a_step d) (parse a_sequence d (drop i q))

module _ (d : ℕ) {q t t₁ : List ℕ} {i n : ℕ} where
  pub union_refused : Reading q t t₁ i n None (parse a_sequence d (drop i q)) → Reading q t t₁ i n None (parse a_union d (drop i q))
  unfolding parse union_by
  union_refused r =
      refuse q t t₁ i n (parse a_union d (drop i q)) r.kept
      (ap (λ (o : Out). parts (length (drop i q)) bar union (parse a_sequence d) o) r.tells ∙ none_more (length (drop i q)) bar union (parse a_sequence d))

  pub union_start : {p : ℕ × ℕ} → Reading q t t₁ i n (Some p) (parse a_sequence d (drop i q)) → Sequences q t₁ t₁ i n d p.0 p.1
  union_start {p} r =
      partly_start q t t₁ i n bar p union (parse a_sequence d) (parse a_union d (drop i q)) (parse a_sequence d (drop i q)) r
      (λ x h l. union_starts d (drop i q) x (drop p.0 q) h l)

  pub sequence_refused : Reading q t t₁ i n None (parse a_step d (drop i q)) → Reading q t t₁ i n None (parse a_sequence d (drop i q))
  unfolding parse sequence_by
  sequence_refused r =
      refuse q t t₁ i n (parse a_sequence d (drop i q)) r.kept
      (ap (λ (o : Out). parts (length (drop i q)) slash sequence (parse a_step d) o) r.tells ∙ none_more (length (drop i q)) slash sequence (parse a_step d))

  pub sequence_start : {p : ℕ × ℕ} → Reading q t t₁ i n (Some p) (parse a_step d (drop i q)) → Steps q t₁ t₁ i n d p.0 p.1
  sequence_start {p} r =
      partly_start q t t₁ i n slash p sequence (parse a_step d) (parse a_sequence d (drop i q)) (parse a_step d (drop i q)) r
      (λ x h l. sequence_starts d (drop i q) x (drop p.0 q) h l)

-- ---- an atom and its stars

pub step_refused : (d : ℕ) {q t t₁ : List ℕ} {i n : ℕ} → Reading q t t₁ i n None (parse an_atom d (drop i q)) → Reading q t t₁ i n None (parse a_step d (drop i q))
unfolding with_stars
step_refused d {q} {t} {t₁} {i} {n} r = refuse q t t₁ i n (parse a_step d (drop i q)) r.kept (step_stars d (drop i q) ∙ ap with_stars r.tells)

module _ (d : ℕ) {q t t₁ : List ℕ} {i n : ℕ} {z : ℕ × ℕ} (r : Reading q t t₁ i n (Some z) (parse an_atom d (drop i q))) where
  abbrev j : ℕ
  j = z.0

  abbrev m : ℕ
  m = z.1

  pub step_read : (p : ℕ) → p ≡ j + run (class 6) (drop j q) → (t₂ : List ℕ) → StarsPut t₁ t₂ m (p - j)
      → Reading q t t₂ i n (Some (p, m + (p - j))) (parse a_step d (drop i q))
  unfolding with_stars class
  step_read p w t₂ u =
      let s = r.tells in
      let lt = holds_lt s.holds in
      let rl = run_le (class 6) (drop j q) in
      let dl = length-drop j q in
      let mv = s.moved in
      let wi = s.within in
      let fw = s.few in
      let k : run (class 6) (drop j q) ≡ p - j = omega arith in
      let y : j + (p - j) ≡ p = omega arith in
      record {
        kept = λ x h. u.kept x (omega arith) ∙ r.kept x h;
        tells = record {
          expr = stars (p - j) s.expr;
          gives = step_stars d (drop i q) ∙ ap with_stars s.gives ∙ answer s.expr k y;
          holds = holds_stars (holds_kept s.holds t₂ u.kept) (p - j) u.stars;
          moved = omega arith;
          within = omega arith;
          few = omega arith;
        };
      }
    where
      answer : (a : Expr) → run (class 6) (drop j q) ≡ p - j → j + (p - j) ≡ p → with_stars (ok a (drop j q)) ≡ ok (stars (p - j) a) (drop p q)
      answer a k y = rw (k, drop-drop (p - j) j q, y)

-- ---- atoms: which rule the first bytes choose

module _ (q : Text) (i d : ℕ) (o : Out) where
  round_none : get_or q i no_byte ≡ round_open → d ≡ 0 → atom_of d (drop i q) o ≡ bad
  unfolding atom_of
  round_none h z = rw (first_drop q i, h, z)

  square_none : get_or q i no_byte ≡ square_open → d ≡ 0 → atom_of d (drop i q) o ≡ bad
  unfolding atom_of
  square_none h z = rw (first_drop q i, h, z)

  atom_stay : get_or q i no_byte ≡ round_open → (d ≡ 0 → ⊥) → get_or q (i + 1) no_byte ≡ round_close → atom_of d (drop i q) o ≡ ok stay (drop (i + 2) q)
  unfolding atom_of
  atom_stay h z w = rw (first_drop q i, h, ne_eqb d 0 z, drop-drop 1 i q, first_drop q (i + 1), w, drop-drop 2 i q)

  pub atom_round : get_or q i no_byte ≡ round_open → (d ≡ 0 → ⊥) → (get_or q (i + 1) no_byte ≡ round_close → ⊥) → atom_of d (drop i q) o ≡ closed round_close (λ e. e) o
  unfolding atom_of
  atom_round h z w = rw (first_drop q i, h, ne_eqb d 0 z, drop-drop 1 i q, first_drop q (i + 1), ne_eqb (get_or q (i + 1) no_byte) round_close w)

  pub atom_square : get_or q i no_byte ≡ square_open → (d ≡ 0 → ⊥) → atom_of d (drop i q) o ≡ closed square_close nested o
  unfolding atom_of
  atom_square h z = rw (first_drop q i, h, ne_eqb d 0 z)

  atom_leaf : (get_or q i no_byte ≡ round_open → ⊥) → (get_or q i no_byte ≡ square_open → ⊥) → atom_of d (drop i q) o ≡ leaf (drop i q)
  unfolding atom_of
  atom_leaf h z = rw (first_drop q i, ne_eqb (get_or q i no_byte) round_open h, ne_eqb (get_or q i no_byte) square_open z)

-- Where the rule needs no inside.
plain_atom : (q : Text) (i d : ℕ) (z : Out) → ((o : Out) → atom_of d (drop i q) o ≡ z) → parse an_atom d (drop i q) ≡ z
plain_atom q i d z h = let (o, p) = atom_opens d (drop i q) in p ∙ h o

module _ (d : ℕ) {q t : List ℕ} {i n : ℕ} where
  pub no_round : get_or q i no_byte ≡ round_open → d ≡ 0 → Reading q t t i n None (parse an_atom d (drop i q))
  no_round h z = refuse q t t i n (parse an_atom d (drop i q)) (λ x l. refl) (plain_atom q i d bad (λ o. round_none q i d o h z))

  pub no_square : get_or q i no_byte ≡ square_open → d ≡ 0 → Reading q t t i n None (parse an_atom d (drop i q))
  no_square h z = refuse q t t i n (parse an_atom d (drop i q)) (λ x l. refl) (plain_atom q i d bad (λ o. square_none q i d o h z))

  pub stay_read : {v : ℕ} → CanRead q t i n → get_or q i no_byte ≡ round_open → (d ≡ 0 → ⊥) → get_or q (i + 1) no_byte ≡ round_close → v ≡ part 0 0 0
      → Reading q t (set t n v) i n (Some (i + 2, n + 1)) (parse an_atom d (drop i q))
  stay_read {v} rd h z w u =
      let a = get_d_within q (i + 1) round_close w (lit< tt) in
      store q t i n (i + 2) v (parse an_atom d (drop i q)) stay (omega (arith, rd)) (omega arith) (omega arith)
      (plain_atom q i d (ok stay (drop (i + 2) q)) (λ o. atom_stay q i d o h z w)) (λ y. h_stay (y ∙ u))

  pub leaf_read : {t₁ : List ℕ} {r : Option (ℕ × ℕ)} → Reading q t t₁ i n r (leaf (drop i q)) → (get_or q i no_byte ≡ round_open → ⊥)
      → (get_or q i no_byte ≡ square_open → ⊥) → Reading q t t₁ i n r (parse an_atom d (drop i q))
  leaf_read {t₁} {r} g h z = reread q t t₁ i i n r (leaf (drop i q)) (parse an_atom d (drop i q)) g (omega arith)
      (sym (plain_atom q i d (leaf (drop i q)) (λ o. atom_leaf q i d o h z)))

-- A bracket, its inside and its closing mark.
module _ (q : Text) (i d mark : ℕ) (fn : Expr → Expr) (some : d ≡ 0 → ⊥) (rule : (o : Out) → atom_of d (drop i q) o ≡ closed mark fn o) where
  closed_opens : parse an_atom d (drop i q) ≡ closed mark fn (parse a_union (d - 1) (drop (i + 1) q))
  closed_opens = inside d some ∙ rule (parse a_union (d - 1) (drop (i + 1) q))
    where
      inside : (d : ℕ) → (d ≡ 0 → ⊥) → parse an_atom d (drop i q) ≡ atom_of d (drop i q) (parse a_union (d - 1) (drop (i + 1) q))
      inside zero z = absurd (z refl)
      inside (suc d) z = let w : suc d - 1 ≡ d = omega arith in rw w (atom_bracket d (drop i q) ∙ ap (λ (x : Text). atom_of (suc d) (drop i q) (parse a_union d x)) (drop-drop 1 i q))

module _ (i d : ℕ) {mark : ℕ} (fn : Expr → Expr) (lt : mark < no_byte) {q t t₁ : List ℕ} {n : ℕ}
    (some : d ≡ 0 → ⊥)
    (rule : (o : Out) → atom_of d (drop i q) o ≡ closed mark fn o) where
  pub inside_refused : Reading q t t₁ (i + 1) n None (parse a_union (d - 1) (drop (i + 1) q)) → Reading q t t₁ i n None (parse an_atom d (drop i q))
  unfolding closed
  inside_refused r = refuse q t t₁ i n (parse an_atom d (drop i q)) r.kept (closed_opens q i d mark fn some rule ∙ ap (closed mark fn) r.tells)

  module _ {z : ℕ × ℕ} (r : Reading q t t₁ (i + 1) n (Some z) (parse a_union (d - 1) (drop (i + 1) q))) where
    abbrev past : ℕ
    past = z.0

    abbrev end : ℕ
    end = z.1

    pub not_closed : (get_or q past no_byte ≡ mark → ⊥) → Reading q t t₁ i n None (parse an_atom d (drop i q))
    unfolding closed
    not_closed w = refuse q t t₁ i n (parse an_atom d (drop i q)) r.kept (closed_opens q i d mark fn some rule ∙ ap (closed mark fn) r.tells.gives
        ∙ rw (first_drop q past, ne_eqb (get_or q past no_byte) mark w))

    -- what is given where the mark is there
    closed_gives : get_or q past no_byte ≡ mark → parse an_atom d (drop i q) ≡ ok (fn r.tells.expr) (drop (past + 1) q)
    unfolding closed
    closed_gives w = closed_opens q i d mark fn some rule ∙ ap (closed mark fn) r.tells.gives ∙ answer r.tells.expr
      where
        answer : (a : Expr) → closed mark fn (ok a (drop past q)) ≡ ok (fn a) (drop (past + 1) q)
        answer a = rw (first_drop q past, eq-eqb (get_or q past no_byte) mark w, drop-drop 1 past q)

    pub group_read : get_or q past no_byte ≡ mark → ((a : Expr) → fn a ≡ a) → Reading q t t₁ i n (Some (past + 1, end)) (parse an_atom d (drop i q))
    group_read w same =
        let s = r.tells in
        let y = get_d_within q past mark w lt in
        let mv = s.moved in
        let fw = s.few in
        record {
          kept = r.kept;
          tells =
              record {
                expr = s.expr;
                gives = closed_gives w ∙ ap (λ (x : Expr). ok x (drop (past + 1) q)) (same s.expr);
                holds = s.holds;
                moved = omega arith;
                within = omega arith;
                few = omega arith;
              };
        }

    pub test_read : get_or q past no_byte ≡ mark → ((a : Expr) → fn a ≡ nested a) → (v : ℕ) → v ≡ part 5 0 0 → end < length t₁
        → Reading q t (set t₁ end v) i n (Some (past + 1, end + 1)) (parse an_atom d (drop i q))
    test_read w same v u room =
        let s = r.tells in
        let y = get_d_within q past mark w lt in
        let gr = holds_lt s.holds in
        let mv = s.moved in
        let fw = s.few in
        record {
          kept = λ x h. get_or-set_other t₁ end x v 0 (λ z. omega arith) ∙ r.kept x h;
          tells = record {
            expr = nested s.expr;
            gives = closed_gives w ∙ ap (λ (x : Expr). ok x (drop (past + 1) q)) (same s.expr);
            holds = h_nested (holds_kept s.holds (set t₁ end v) (λ x l. get_or-set_other t₁ end x v 0 (λ z. omega arith))) (get_or-set_same t₁ end v 0 room ∙ u);
            moved = omega arith;
            within = omega arith;
            few = omega arith;
          };
        }
