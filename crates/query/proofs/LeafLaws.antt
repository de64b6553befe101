-- Names, labels and stars: a run and one stored part are what the reading gives. Assumes nothing.
use borrow.Author.Tests.{eq-eqb, ne_eqb, le-leb, lt-leb}
use lib.Dec.{lit<}
use lib.ListN.{length, take, drop, get_or, set, length-take, length-drop}
use lib.Seq.{drop-drop, get_or-set_same, get_or-set_other}
use mathlib.Core.Bool.{Bool}
use mathlib.Core.List.{List}
use mathlib.Core.Logic.{◌⊎◌}
use mathlib.Core.Path.{◌≡◌, refl, sym, ap, subst, ◌∙◌}
use native.Mathlib.Omega.{arith}
use Prim.Native.Nat.{ℕ, ◌+◌, ◌-◌, ◌≤◌, ◌<◌}
use Rattle.grammar.proofs.Bytes.{first_drop, get_d_within, run_le}
use Rattle.grammar.specs.Grammar.{letter, other, angle_open, angle_close, quote, underscore}
use Rattle.grammar.specs.Parse.{bad, first, label, leaf, name, no_byte, ok, Out, run}
use Rattle.meaning.specs.Limits.{max_name_bytes, part_room}
use Rattle.meaning.specs.Pack.{Text}
use Rattle.meaning.specs.Query.{Expr, step, any_step, at_iri, at_literal}
use Rattle.std.specs.Prelude.{Option, Some, None}
use Rattle.query.specs.Reading.{class, labelled, CanRead, Tells, Reading}
use Rattle.query.specs.Tree.{part, QueryTextAt, Holds, h_step, h_iri, h_literal}

-- A refusal that kept the parts below n.
pub refuse : (q t t' : List ℕ) (i n : ℕ) (o : Out) → ((x : ℕ) → x < n → get_or t' x 0 ≡ get_or t x 0) → o ≡ bad → Reading q t t' i n None o
refuse q t t' i n o k h = record { kept = k; tells = h }

-- One part stored at n.
pub store : (q t : List ℕ) (i n j v : ℕ) (o : Out) (e : Expr) → n < length t → i < j → j ≤ length q
    → o ≡ ok e (drop j q) → (get_or (set t n v) n 0 ≡ v → Holds q (set t n v) n e (n + 1))
    → Reading q t (set t n v) i n (Some (j, n + 1)) o
store q t i n j v o e lt mv wi g h = record {
  kept = λ x l. get_or-set_other t n x v 0 (λ w. omega arith);
  tells = record { expr = e; gives = g; holds = h (get_or-set_same t n v 0 lt); moved = mv; within = wi; few = omega arith };
}

-- How long a run is that ends at j.
run_size : (p : ℕ → Bool) (q : Text) (i j : ℕ) → i ≤ length q → j ≡ i + run p (drop i q) → (run p (drop i q) ≡ j - i) × (j ≤ length q)
    × (length (take (j - i) (drop i q)) ≡ j - i)
run_size p q i j le e =
    let r = run_le p (drop i q) in
    let d = length-drop i q in
    let k : j ≤ length q = omega arith in
    (omega arith, k, simp (length-take, length-drop) (omega arith))

-- What stands from i up to j.
run_at : (q : Text) (i j : ℕ) → i < part_room → j - i < part_room → length (take (j - i) (drop i q)) ≡ j - i → QueryTextAt q i (take (j - i) (drop i q))
run_at q i j a b e = record { begins = a; short = omega arith; bytes = ap (λ (x : ℕ). take x (drop i q)) e }

-- ---- labels

label_no : (mark : ℕ) (f : Text → Expr) (q : Text) (i j : ℕ) → j ≡ i + run (other mark) (drop i q) → (get_or q j no_byte ≡ mark → ⊥) → label mark f (drop i q) ≡ bad
unfolding label
label_no mark f q i j e h =
    let k = run (other mark) (drop i q) in
    let w : first (drop k (drop i q)) ≡ get_or q j no_byte = ap first (drop-drop k i q) ∙ first_drop q (i + k) ∙ ap (λ (x : ℕ). get_or q x no_byte) (sym e) in
    rw (w, ne_eqb (get_or q j no_byte) mark h)

label_yes : (mark : ℕ) (f : Text → Expr) (q : Text) (i j : ℕ) → i ≤ length q → j ≡ i + run (other mark) (drop i q) → get_or q j no_byte ≡ mark
    → label mark f (drop i q) ≡ ok (f (take (j - i) (drop i q))) (drop (j + 1) q)
unfolding label
label_yes mark f q i j le e h =
    let k = run (other mark) (drop i q) in
    let w : first (drop k (drop i q)) ≡ mark = ap first (drop-drop k i q) ∙ first_drop q (i + k) ∙ ap (λ (x : ℕ). get_or q x no_byte) (sym e) ∙ h in
    let v : drop 1 (drop k (drop i q)) ≡ drop (j + 1) q = ap (λ (x : Text). drop 1 x) (drop-drop k i q) ∙ drop-drop 1 (i + k) q ∙ ap (λ (x : ℕ). drop (x + 1) q) (sym e) in
    rw (w, eq-eqb mark mark refl, v, (run_size (other mark) q i j le e).0)

-- The closing mark that belongs to a kind of label.
abbrev pub Kind : ℕ → ℕ → Type 0
Kind kind mark = ((kind ≡ 3) × (mark ≡ angle_close)) ⊎ ((kind ≡ 4) × (mark ≡ quote))

module _ (q t : List ℕ) (i n kind mark j : ℕ) (is : j ≡ i + run (class kind) (drop i q)) where
  pub label_refused : Kind kind mark → (get_or q j no_byte ≡ mark → ⊥) → Reading q t t i n None (labelled kind (drop i q))
  unfolding labelled class
  label_refused (◌⊎◌.inl (p, r)) h = refuse q t t i n (labelled kind (drop i q)) (λ x l. refl)
      (ap (λ (x : ℕ). labelled x (drop i q)) p ∙ label_no angle_close at_iri q i j (is ∙ ap (λ (x : ℕ). i + run (class x) (drop i q)) p) (λ w. h (w ∙ sym r)))
  label_refused (◌⊎◌.inr (p, r)) h = refuse q t t i n (labelled kind (drop i q)) (λ x l. refl)
      (ap (λ (x : ℕ). labelled x (drop i q)) p ∙ label_no quote at_literal q i j (is ∙ ap (λ (x : ℕ). i + run (class x) (drop i q)) p) (λ w. h (w ∙ sym r)))

  -- One law for both kinds.
  module _ (v : ℕ) (rd : CanRead q t i n) (h : get_or q j no_byte ≡ mark) (u : v ≡ part kind i (j - i)) (k m : ℕ) (lt : m < no_byte)
      (f : Text → Expr) (rule : (s : Text) → QueryTextAt q i s → get_or (set t n v) n 0 ≡ part k i (length s) → Holds q (set t n v) n (f s) (n + 1))
      (p : kind ≡ k) (r : mark ≡ m) (same : j ≡ i + run (other m) (drop i q)) (told : labelled kind (drop i q) ≡ label m f (drop i q)) where
    label_kept : Reading q t (set t n v) i n (Some (j + 1, n + 1)) (labelled kind (drop i q))
    label_kept =
        let z = run_size (other m) q i j rd.within same in
        let w = get_d_within q j m (h ∙ r) lt in
        store q t i n (j + 1) v (labelled kind (drop i q)) (f (take (j - i) (drop i q))) (omega (arith, rd, z)) (omega arith) (omega arith)
        (told ∙ label_yes m f q i j rd.within same (h ∙ r))
        (λ x. rule (take (j - i) (drop i q)) (run_at q i j (omega (arith, rd, z)) (omega (arith, rd, z)) z.2)
        (x ∙ u ∙ ap (λ (y : ℕ). part y i (j - i)) p ∙ ap (λ (y : ℕ). part k i y) (sym z.2)))

  pub label_stored : (v : ℕ) → CanRead q t i n → Kind kind mark → get_or q j no_byte ≡ mark → v ≡ part kind i (j - i)
      → Reading q t (set t n v) i n (Some (j + 1, n + 1)) (labelled kind (drop i q))
  unfolding labelled class
  label_stored v rd (◌⊎◌.inl (p, r)) h u = label_kept v rd h u 3 angle_close (lit< tt) at_iri (λ s a x. h_iri a x) p r
      (is ∙ ap (λ (x : ℕ). i + run (class x) (drop i q)) p) (ap (λ (x : ℕ). labelled x (drop i q)) p)
  label_stored v rd (◌⊎◌.inr (p, r)) h u = label_kept v rd h u 4 quote (lit< tt) at_literal (λ s a x. h_literal a x) p r
      (is ∙ ap (λ (x : ℕ). i + run (class x) (drop i q)) p) (ap (λ (x : ℕ). labelled x (drop i q)) p)

-- ---- names

module _ (q t : List ℕ) (i n j : ℕ) (is : j ≡ i + run (class 2) (drop i q)) where
  pub name_short : i ≤ length q → j - i ≡ 0 → Reading q t t i n None (name (drop i q))
  unfolding name class
  name_short le h = refuse q t t i n (name (drop i q)) (λ x l. refl) (rw ((run_size letter q i j le is).0, h))

  pub name_long : i ≤ length q → max_name_bytes < j - i → Reading q t t i n None (name (drop i q))
  unfolding name class
  name_long le h = refuse q t t i n (name (drop i q)) (λ x l. refl) (rw ((run_size letter q i j le is).0, lt-leb (j - i) max_name_bytes h, le-leb 1 (j - i) (omega arith)))

  pub name_stored : (v : ℕ) → CanRead q t i n → (j - i ≡ 0 → ⊥) → j - i ≤ max_name_bytes → v ≡ part 2 i (j - i) → Reading q t (set t n v) i n (Some (j, n + 1)) (name (drop i q))
  unfolding name class
  name_stored v rd lo hi u =
      let z = run_size letter q i j rd.within is in
      let y : i + (j - i) ≡ j = omega (arith, rd) in
      let w : drop (j - i) (drop i q) ≡ drop j q = drop-drop (j - i) i q ∙ ap (λ (x : ℕ). drop x q) y in
      store q t i n j v (name (drop i q)) (step (take (j - i) (drop i q))) (omega (arith, rd, z)) (omega arith) z.1
      (rw (z.0, le-leb 1 (j - i) (omega arith), le-leb (j - i) max_name_bytes hi, w))
      (λ x. h_step (run_at q i j (omega (arith, rd, z)) (omega (arith, rd, z)) z.2) (x ∙ u ∙ ap (λ (x : ℕ). part 2 i x) (sym z.2)))

-- ---- the choice by the first byte

-- The same reading, begun at an earlier byte and seen as another answer.
pub reread : (q t t' : List ℕ) (i i' n : ℕ) (r : Option (ℕ × ℕ)) (o o' : Out) → Reading q t t' i' n r o → i ≤ i' → o ≡ o' → Reading q t t' i n r o'
reread q t t' i i' n r o o' g le e = record { kept = g.kept; tells = subst (λ (x : Out). Tells r q t' i n x) e (go r g.tells) }
  where
    go : (r : Option (ℕ × ℕ)) → Tells r q t' i' n o → Tells r q t' i n o
    go None x = x
    go (Some p) x = let a = x.moved in let b = x.few in record { expr = x.expr; gives = x.gives; holds = x.holds; moved = omega arith; within = x.within; few = omega arith }

module _ (q : Text) (i : ℕ) where
  pub leaf_iri : get_or q i no_byte ≡ angle_open → labelled 3 (drop (i + 1) q) ≡ leaf (drop i q)
  unfolding leaf labelled
  leaf_iri h = rw (first_drop q i, h, drop-drop 1 i q)

  pub leaf_literal : get_or q i no_byte ≡ quote → labelled 4 (drop (i + 1) q) ≡ leaf (drop i q)
  unfolding leaf labelled
  leaf_literal h = rw (first_drop q i, h, drop-drop 1 i q)

  pub leaf_any : get_or q i no_byte ≡ underscore → leaf (drop i q) ≡ ok any_step (drop (i + 1) q)
  unfolding leaf
  leaf_any h = rw (first_drop q i, h, drop-drop 1 i q)

  pub leaf_name : (get_or q i no_byte ≡ angle_open → ⊥) → (get_or q i no_byte ≡ quote → ⊥) → (get_or q i no_byte ≡ underscore → ⊥) → name (drop i q) ≡ leaf (drop i q)
  unfolding leaf
  leaf_name h₁ h₂ h₃ =
      let c = get_or q i no_byte in
      rw (first_drop q i, ne_eqb c angle_open h₁, ne_eqb c quote h₂, ne_eqb c underscore h₃)
