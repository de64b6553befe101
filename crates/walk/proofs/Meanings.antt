-- What an expression joins: nodes, and step by step through a star. Assumes nothing.
use mathlib.Core.Logic.{inl, inr}
use mathlib.Core.Path.{refl, sym, subst}
use Rattle.meaning.specs.Query.{Expr, stay, step, any_step, at_iri, at_literal, nested, sequence, union, star, View, Repeated, none, more, Joins}
use Rattle.walk.specs.Walk.{EdgesJoinNodes}

module _ {N : Type 0} {R : N → N → Type 0} where
  -- One more pass at the front.
  pub before : {n k m : N} → R n k → Repeated R k m → Repeated R n m
  before {n} j (none p) = subst (λ x. Repeated R n x) p (more (none refl) j)
  before j (more r x) = more (before j r) x

  -- What each pass keeps, forward or backward, all of them keep.
  pub kept : (P : N → Type 0) → ((k m : N) → R k m → P k → P m) → {n m : N} → Repeated R n m → P n → P m
  kept P f (none p) h = subst P p h
  kept P f (more {k = k} {m = m} r x) h = f k m x (kept P f r h)

  pub kept_back : (P : N → Type 0) → ((k m : N) → R k m → P m → P k) → {n m : N} → Repeated R n m → P m → P n
  kept_back P f (none p) h = subst P (sym p) h
  kept_back P f (more {k = k} {m = m} r x) h = kept_back P f r (f k m x h)

module _ (G : View) (whole : EdgesJoinNodes G) where
  -- What is joined are nodes.
  pub joins_from : (e : Expr) (n m : G.Node) → Joins G e n m → G.IsNode n
  unfolding Joins
  joins_from stay n m j = j.0
  joins_from (step s) n m (p, c, e) = (whole n m p e).0
  joins_from any_step n m (p, e) = (whole n m p e).0
  joins_from (at_iri s) n m j = j.0
  joins_from (at_literal s) n m j = j.0
  joins_from (nested e) n m (p, k, x) = joins_from e n k x
  joins_from (sequence e f) n m (k, x, y) = joins_from e n k x
  joins_from (union e f) n m (inl x) = joins_from e n m x
  joins_from (union e f) n m (inr x) = joins_from f n m x
  joins_from (star e) n m j = j.0

  pub joins_to : (e : Expr) (n m : G.Node) → Joins G e n m → G.IsNode m
  unfolding Joins
  joins_to stay n m j = subst G.IsNode j.1 j.0
  joins_to (step s) n m (p, c, e) = (whole n m p e).1
  joins_to any_step n m (p, e) = (whole n m p e).1
  joins_to (at_iri s) n m j = subst G.IsNode j.2 j.0
  joins_to (at_literal s) n m j = subst G.IsNode j.2 j.0
  joins_to (nested e) n m (p, k, x) = subst G.IsNode p (joins_from e n k x)
  joins_to (sequence e f) n m (k, x, y) = joins_to f k m y
  joins_to (union e f) n m (inl x) = joins_to e n m x
  joins_to (union e f) n m (inr x) = joins_to f n m x
  joins_to (star e) n m j = kept G.IsNode (λ k m x h. joins_to e k m x) j.1 j.0
