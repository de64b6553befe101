-- Simulation of one graph by another, and that forward expressions are preserved along it (document 002, lemma 18).
-- Assumes nothing.
use mathlib.Core.Logic.{inl, inr}
use mathlib.Core.Path.{refl, subst}
use Prim.Native.Nat.{ℕ}
use Rattle.meaning.specs.Pack.{Text}
use Rattle.meaning.specs.Query.{Expr, Joins, Repeated, Satisfied, View, any_step, at_iri, at_literal, more, nested, none, sequence, star, stay, step, union}

-- ---- what is flatMap are nodes

-- An edge's two ends are nodes of the graph.
pub record Closed (G : View) : Type 0 where
  pub from : {n m : G.Node} {p : ℕ} → G.Edge n p m → G.IsNode n
  pub to : {n m : G.Node} {p : ℕ} → G.Edge n p m → G.IsNode m

module _ {G : View} (c : Closed G) where
  pub starts : (e : Expr) (n m : G.Node) → Joins G e n m → G.IsNode n
  unfolding Joins
  starts stay n m j = j.0
  starts (step name) n m j = c.from j.2
  starts any_step n m j = c.from j.1
  starts (at_iri label) n m j = j.0
  starts (at_literal label) n m j = j.0
  starts (nested e) n m j = starts e n j.1 j.2
  starts (sequence e f) n m j = starts e n j.0 j.1
  starts (union e f) n m (inl j) = starts e n m j
  starts (union e f) n m (inr j) = starts f n m j
  starts (star e) n m j = j.0

  pub last : (R : G.Node → G.Node → Type 0) → ((n m : G.Node) → R n m → G.IsNode m)
      → {n m : G.Node} → G.IsNode n → Repeated R n m → G.IsNode m
  last R h i (none e) = subst G.IsNode e i
  last R h i (more {k} {m} a r) = h k m r

  pub ends : (e : Expr) (n m : G.Node) → Joins G e n m → G.IsNode m
  unfolding Joins
  ends stay n m j = subst G.IsNode j.1 j.0
  ends (step name) n m j = c.to j.2
  ends any_step n m j = c.to j.1
  ends (at_iri label) n m j = subst G.IsNode j.2 j.0
  ends (at_literal label) n m j = subst G.IsNode j.2 j.0
  ends (nested e) n m j = subst G.IsNode j.0 (starts e n j.1 j.2)
  ends (sequence e f) n m j = ends f j.0 m j.2
  ends (union e f) n m (inl j) = ends e n m j
  ends (union e f) n m (inr j) = ends f n m j
  ends (star e) n m j = last (Joins G e) (ends e) j.0 j.1

-- ---- simulation: H can follow whatever G does

pub record Simulation (G H : View) : Type 1 where
  pub Like : G.Node → H.Node → Type 0
  pub total : (n : G.Node) → G.IsNode n → (n' : H.Node) × Like n n'
  pub node : {n : G.Node} {n' : H.Node} → Like n n' → H.IsNode n'
  pub edge : {n m : G.Node} {n' : H.Node} {p : ℕ} → Like n n' → G.Edge n p m → (m' : H.Node) × H.Edge n' p m' × Like m m'
  pub names : {name : Text} {p : ℕ} → G.Names name p → H.Names name p
  pub iri : {n : G.Node} {n' : H.Node} {label : Text} → Like n n' → G.IriLabel label n → H.IriLabel label n'
  pub literal : {n : G.Node} {n' : H.Node} {label : Text} → Like n n' → G.LiteralLabel label n → H.LiteralLabel label n'

module _ {G H : View} (Z : Simulation G H) where
  -- H can make each move of R by a move of R'
  abbrev pub Follows : (G.Node → G.Node → Type 0) → (H.Node → H.Node → Type 0) → Type 0
  Follows R R' = (n m : G.Node) (n' : H.Node) → Z.Like n n' → R n m → (m' : H.Node) × R' n' m' × Z.Like m m'

  repeats : (R : G.Node → G.Node → Type 0) (R' : H.Node → H.Node → Type 0) → Follows R R'
      → {n m : G.Node} {n' : H.Node} → Z.Like n n' → Repeated R n m → (m' : H.Node) × Repeated R' n' m' × Z.Like m m'
  repeats R R' one {n'} z (none e) = (n', none refl, subst (λ x. Z.Like x n') e z)
  repeats R R' one z (more {k} {m} h r) =
      let a = repeats R R' one z h in
      let b = one k m a.0 a.2 r in
      (b.0, more a.1 b.1, b.2)

  -- whatever a forward expression joins in G, it joins in H, from every node of H that is like the first
  pub follows : (e : Expr) → Follows (Joins G e) (Joins H e)
  unfolding Joins
  follows stay n m n' z j = (n', (Z.node z, refl), subst (λ x. Z.Like x n') j.1 z)
  follows (step name) n m n' z j = let r = Z.edge z j.2 in (r.0, (j.0, Z.names j.1, r.1), r.2)
  follows any_step n m n' z j = let r = Z.edge z j.1 in (r.0, (j.0, r.1), r.2)
  follows (at_iri label) n m n' z j = (n', (Z.node z, Z.iri z j.1, refl), subst (λ x. Z.Like x n') j.2 z)
  follows (at_literal label) n m n' z j = (n', (Z.node z, Z.literal z j.1, refl), subst (λ x. Z.Like x n') j.2 z)
  follows (nested e) n m n' z j = let r = follows e n j.1 n' z j.2 in (n', (refl, r.0, r.1), subst (λ x. Z.Like x n') j.0 z)
  follows (sequence e f) n m n' z j =
      let r = follows e n j.0 n' z j.1 in
      let s = follows f j.0 m r.0 r.2 j.2 in
      (s.0, (r.0, r.1, s.1), s.2)
  follows (union e f) n m n' z (inl j) = let r = follows e n m n' z j in (r.0, inl r.1, r.2)
  follows (union e f) n m n' z (inr j) = let r = follows f n m n' z j in (r.0, inr r.1, r.2)
  follows (star e) n m n' z j = let r = repeats (Joins G e) (Joins H e) (follows e) z j.1 in (r.0, (Z.node z, r.1), r.2)

  -- forward expressions are robust under simulation (document 002, lemma 18)
  pub robust : Closed G → (e : Expr) → Satisfied G e → Satisfied H e
  unfolding Satisfied
  robust c e s =
      let z = Z.total s.0 (starts c e s.0 s.1 s.2) in
      let r = follows e s.0 s.1 z.0 z.1 s.2 in
      (z.0, r.0, r.1)
