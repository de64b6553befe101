-- The expression of each part of a tree. Assumes nothing.
use lib.ListN.{length, take, drop, get_or}
use mathlib.Core.List.{List}
use mathlib.Core.Logic.{inl, inr}
use mathlib.Core.Path.{◌≡◌, refl, ap, ◌∙◌}
use native.Mathlib.Omega.{arith}
use Prim.Native.Nat.{ℕ, zero, suc, ◌+◌, ◌-◌, ◌≤◌, ◌<◌}
use Rattle.meaning.specs.Limits.{max_parts, part_room}
use Rattle.meaning.specs.Pack.{Text}
use Rattle.meaning.specs.Query.{Expr, stay, step, at_iri, at_literal, nested, sequence, union, star}
use Rattle.query.proofs.TreeLaws.{holds_lt}
use Rattle.query.specs.Tree.{part as number}
use Rattle.query.specs.Tree.{Holds, h_stay, h_any, h_step, h_iri, h_literal, h_nested, h_star, h_sequence, h_union}
use Rattle.walk.specs.Parts.{Part, leaf, test, repeat, chain, either, Child, part_of, leaf_by, leaf_of}
use Rattle.walk.proofs.Alive.{Says}
use Rattle.walk.proofs.Trees.{is_leaf, is_test, is_repeat, is_chain, is_either, leaf_is}

-- A part's expression, from its leaf and the expressions of its own parts.
abbrev made : Part → Expr → (ℕ → Expr) → Expr
made leaf e r = e
made (test b) e r = nested (r b)
made (repeat b) e r = star (r b)
made (chain a b) e r = sequence (r a) (r b)
made (either a b) e r = union (r a) (r b)

module _ (part : ℕ → Part) (leaves : ℕ → Expr) where
  -- The expression of the part i, for an f above i.
  unfoldable pub expr_at : ℕ → ℕ → Expr
  expr_at zero i = stay
  expr_at (suc f) i = made (part i) (leaves i) (expr_at f)

  abbrev pub expr_of : ℕ → Expr
  expr_of i = expr_at (suc i) i

  module _ (done : ℕ) (before : (i c : ℕ) → i < done → Child (part i) c → c < i) where
    -- Any f above i will do.
    same : (f g i : ℕ) → i < f → i < g → i < done → expr_at f i ≡ expr_at g i
    unfolding expr_at
    same zero g i lf lg l = absurd (omega arith)
    same (suc f) zero i lf lg l = absurd (omega arith)
    same (suc f) (suc g) i lf lg l = go (part i) (before i) (λ c h. same f g c (omega arith) (omega arith) (omega arith))
      where
        go : (p : Part) → ((c : ℕ) → i < done → Child p c → c < i) → ((c : ℕ) → c < i → expr_at f c ≡ expr_at g c) → made p (leaves i) (expr_at f) ≡ made p (leaves i) (expr_at g)
        go leaf b r = refl
        go (test c) b r = ap nested (r c (b c l refl))
        go (repeat c) b r = ap star (r c (b c l refl))
        go (chain a c) b r = let x = r a (b a l (inl refl)) in let y = r c (b c l (inr refl)) in cc
        go (either a c) b r = let x = r a (b a l (inl refl)) in let y = r c (b c l (inr refl)) in cc

    pub expr_says : (i : ℕ) → i < done → Says leaves expr_of i (part i)
    unfolding expr_at
    expr_says i l = go (part i) refl (before i)
      where
        here : (p : Part) → part i ≡ p → expr_of i ≡ made p (leaves i) (expr_at i)
        here p e = ap (λ (x : Part). made x (leaves i) (expr_at i)) e

        go : (p : Part) → part i ≡ p → ((c : ℕ) → i < done → Child p c → c < i) → Says leaves expr_of i p
        go leaf e b = here leaf e
        go (test c) e b = let h = b c l refl in (h, here (test c) e ∙ ap nested (same i (suc c) c h (omega arith) (omega arith)))
        go (repeat c) e b = let h = b c l refl in (h, here (repeat c) e ∙ ap star (same i (suc c) c h (omega arith) (omega arith)))
        go (chain a c) e b =
            let h = b a l (inl refl) in
            let g = b c l (inr refl) in
            let x = same i (suc a) a h (omega arith) (omega arith) in
            let y = same i (suc c) c g (omega arith) (omega arith) in
            let z = here (chain a c) e in
            (h, g, cc)
        go (either a c) e b =
            let h = b a l (inl refl) in
            let g = b c l (inr refl) in
            let x = same i (suc a) a h (omega arith) (omega arith) in
            let y = same i (suc c) c g (omega arith) (omega arith) in
            let z = here (either a c) e in
            (h, g, cc)

-- ---- the expression of the root is what the tree holds

module _ (q : Text) (t : List ℕ) where
  abbrev at : ℕ → ℕ → Expr
  at = expr_at (part_of t) (leaf_of q t)

  -- At a part with no parts, and at one with some.
  leaf_at : (n k a b : ℕ) → k < 5 → get_or t n 0 ≡ number k a b → a < part_room → b < part_room → (f : ℕ) → n + 1 ≤ f → at f (n + 1 - 1) ≡ leaf_by k (take b (drop a q))
  unfolding expr_at
  leaf_at n k a b lk p la lb zero l = absurd (omega arith)
  leaf_at n k a b lk p la lb (suc f) l =
      let z : n + 1 - 1 ≡ n = omega arith in
      rw z (ap (λ (x : Part). made x (leaf_of q t n) (at f)) (is_leaf t n k a b lk p la lb) ∙ leaf_is t n k a b p la lb q)

  inner_at : (n : ℕ) (p : Part) (e : Expr) → part_of t n ≡ p → ((g : ℕ) → n ≤ g → made p (leaf_of q t n) (at g) ≡ e) → (f : ℕ) → n + 1 ≤ f → at f (n + 1 - 1) ≡ e
  unfolding expr_at
  inner_at n p e h r zero l = absurd (omega arith)
  inner_at n p e h r (suc f) l =
      let z : n + 1 - 1 ≡ n = omega arith in
      rw z (ap (λ (x : Part). made x (leaf_of q t n) (at f)) h ∙ r f (omega arith))

  pub root_at : {n m : ℕ} {e : Expr} → Holds q t n e m → m ≤ max_parts → (f : ℕ) → m ≤ f → at f (m - 1) ≡ e
  unfolding leaf_by
  root_at (h_stay {n = n} p) s f l = leaf_at n 0 0 0 (omega arith) p (omega arith) (omega arith) f l
  root_at (h_any {n = n} p) s f l = leaf_at n 1 0 0 (omega arith) p (omega arith) (omega arith) f l
  root_at (h_step {n = n} {a = a} {s = u} r p) s f l = leaf_at n 2 a (length u) (omega arith) p r.begins r.short f l ∙ ap step r.bytes
  root_at (h_iri {n = n} {a = a} {s = u} r p) s f l = leaf_at n 3 a (length u) (omega arith) p r.begins r.short f l ∙ ap at_iri r.bytes
  root_at (h_literal {n = n} {a = a} {s = u} r p) s f l = leaf_at n 4 a (length u) (omega arith) p r.begins r.short f l ∙ ap at_literal r.bytes
  root_at (h_nested {m = m} {e = e} h p) s f l = inner_at m (test (m - 1)) (nested e) (is_test t m p) (λ g l. ap nested (root_at h (omega arith) g l)) f l
  root_at (h_star {m = m} {e = e} h p) s f l = inner_at m (repeat (m - 1)) (star e) (is_repeat t m p) (λ g l. ap star (root_at h (omega arith) g l)) f l
  root_at (h_sequence {m = m} {k = k} {a = a} {b = b} h g p) s v u =
      let w = holds_lt g in
      inner_at k (chain (m - 1) (k - 1)) (sequence a b) (is_chain t k (m - 1) p (omega arith))
      (λ f l. let x = root_at h (omega arith) f (omega arith) in let y = root_at g (omega arith) f l in cc) v u
  root_at (h_union {m = m} {k = k} {a = a} {b = b} h g p) s v u =
      let w = holds_lt g in
      inner_at k (either (m - 1) (k - 1)) (union a b) (is_either t k (m - 1) p (omega arith))
      (λ f l. let x = root_at h (omega arith) f (omega arith) in let y = root_at g (omega arith) f l in cc) v u
