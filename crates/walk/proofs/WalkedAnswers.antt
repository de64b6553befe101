-- The walk over the parts that the reader wrote answers the query: for any graph whose edges join its nodes, forward the
-- pairs that it joins, backward whether it joins any. Assumes nothing.
use mathlib.Core.List.{List}
use mathlib.Core.Logic.{◌↔◌, inl, inr}
use mathlib.Core.Path.{◌≡◌, refl, subst}
use native.Mathlib.Omega.{arith}
use Prim.Native.Nat.{ℕ, zero, suc, ◌+◌, ◌-◌, ◌≤◌, ◌<◌}
use Rattle.meaning.specs.Limits.{max_parts}
use Rattle.meaning.specs.Pack.{Text}
use Rattle.meaning.specs.Query.{View, Joins, Satisfied}
use Rattle.query.proofs.TreeLaws.{holds_lt}
use Rattle.query.specs.Answer.{HoldsQuery}
use Rattle.walk.specs.Parts.{Part, test, repeat, chain, either, part_of, leaf_of, Child, Linked, Threaded, listed}
use Rattle.walk.specs.Walk.{Reached, Alive, EdgesJoinNodes}
use Rattle.walk.proofs.Alive.{Says, forward, backward}
use Rattle.walk.proofs.Expressions.{expr_of, expr_says, root_at}
use Rattle.walk.proofs.Trees.{Nest, holds_nest}
use Rattle.meaning.proofs.Cases.{case_lt}

-- What is to be done after a part is one of the parts, or the end.
pub next_within : (q : Text) (t next : List ℕ) (n : ℕ) → HoldsQuery q t n → Threaded (part_of t) (listed next) n → (i : ℕ) → i < n → listed next i ≤ n
next_within q t next n held threaded i l = from n i (omega arith) l
  where
    nest : Nest t 0 n
    nest = holds_nest held.holds (let a = held.few in let b = held.query.fits in omega arith)

    after : (c p : ℕ) (x : Part) → p < n → ((d : ℕ) → Child x d → d < p) → Child x c → listed next p ≤ n → Linked (listed next) n p x → listed next c ≤ n
    after c p Rattle.walk.specs.Parts.leaf lp w e h k = elim e [ ]
    after c p (test b) lp w e h k = rw e (omega arith)
    after c p (repeat b) lp w e h k = rw e (omega arith)
    after c p (chain a b) lp w (inl e) h (k, g) = let z = w b (inr refl) in rw e (omega arith)
    after c p (chain a b) lp w (inr e) h (k, g) = rw e (omega arith)
    after c p (either a b) lp w (inl e) h (k, g) = rw e (omega arith)
    after c p (either a b) lp w (inr e) h (k, g) = rw e (omega arith)

    from : (f i : ℕ) → n ≤ i + f → i < n → listed next i ≤ n
    from zero i h l = absurd (omega arith)
    from (suc f) i h l = case_lt i (n - 1)
        (λ s. let (p, a, b, x) = nest.owned i (omega arith) s in
        after i p (part_of t p) b (λ d y. (nest.within p d (omega arith) b y).1) x (from f p (omega arith) b) (threaded.linked p b))
        (λ s. let r = threaded.root in let e : n - 1 ≡ i = omega arith in subst (λ y. listed next y ≤ n) e (omega arith))

module _ (G : View) (whole : EdgesJoinNodes G) (q : Text) (t next : List ℕ) (n : ℕ) (held : HoldsQuery q t n) (threaded : Threaded (part_of t) (listed next) n) where
  short : n ≤ max_parts
  short = let a = held.few in let b = held.query.fits in omega arith

  some : 0 < n
  some = holds_lt held.holds

  says : (i : ℕ) → i < n → Says (leaf_of q t) (expr_of (part_of t) (leaf_of q t)) i (part_of t i)
  says = expr_says (part_of t) (leaf_of q t) n (λ i c l x. ((holds_nest held.holds short).within i c (omega arith) l x).1)

  root : expr_of (part_of t) (leaf_of q t) (n - 1) ≡ held.expression
  root = root_at q t held.holds short (suc (n - 1)) (let s = some in omega arith)

  -- The alive states, and the states that are reached through tests that are alive.
  abbrev pub Living : ℕ → G.Node → Type 0
  Living = Alive G (part_of t) (leaf_of q t) (listed next) n

  abbrev pub Walked : ℕ → G.Node → ℕ → G.Node → Type 0
  Walked = Reached G (part_of t) (leaf_of q t) (listed next) n Living

  -- FORWARD: from the root at v, the end at w is reached exactly if the query joins v to w.
  pub pairs_walked : (v w : G.Node) → Walked (n - 1) v n w ↔ Joins G held.expression v w
  pairs_walked v w = subst (λ e. Walked (n - 1) v n w ↔ Joins G e v w) root
      (forward G whole (part_of t) (leaf_of q t) (listed next) n threaded (expr_of (part_of t) (leaf_of q t)) says (n - 1) (let s = some in omega arith) threaded.root v w)

  -- BACKWARD: the root is alive at v exactly if the query joins v to some node.
  pub starts_living : (v : G.Node) → Living (n - 1) v ↔ ((w : G.Node) × Joins G held.expression v w)
  starts_living v = subst (λ e. Living (n - 1) v ↔ ((w : G.Node) × Joins G e v w)) root
      (backward G whole (part_of t) (leaf_of q t) (listed next) n threaded (expr_of (part_of t) (leaf_of q t)) says (n - 1) (let s = some in omega arith) threaded.root v)

  -- Yes: the query is satisfied exactly if its root is alive somewhere.
  pub yes_living : Satisfied G held.expression ↔ ((v : G.Node) × Living (n - 1) v)
  unfolding Satisfied
  yes_living = ((λ (v, w, j). (v, (starts_living v).1 (w, j))), (λ (v, a). let x = (starts_living v).0 a in (v, x.0, x.1)))
