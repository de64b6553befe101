-- The meaning of an expression in a graph whose nodes and edges are listed, computed. Assumes nothing.
use lib.Dec.{T}
use lib.ListN.{length}
use mathlib.Core.Bool.{Bool, true, false}
use mathlib.Core.List.Memᴰ
use mathlib.Core.List.{List, [], ◌∷◌, ◌++◌, flat_map}
use mathlib.Core.Logic.{◌⊎◌, ◌↔◌, inl, inr}
use mathlib.Core.Path.{◌≡◌, refl, sym}
use native.Mathlib.Nat.{le_refl}
use Prim.Native.Nat.{ℕ}
use Rattle.meaning.specs.Query as Q
use Rattle.meaning.proofs.Lists.Members.{any_in, any_only, joined_in, joined_only, ∈_append}
use Rattle.meaning.proofs.Lists.Reach.{Reached, grow, reach_iff, seed, step}
use Rattle.meaning.proofs.Theory.Simulation.{Closed, ends, last, starts}
use Rattle.meaning.specs.Member.{◌∈◌, here, there}
use Rattle.meaning.specs.Pack.{Text}
use Rattle.meaning.specs.Query.{Expr, Joins, Repeated, Satisfied, View, any_step, at_iri, at_literal, more, nested, none, sequence, star, stay, union}
use Rattle.meaning.specs.Tests.{any}

-- A graph that can be walked: its nodes in a list, the ends of each step, and a test for each label.
pub record Walkable (G : View) : Type 0 where
  pub same : Discrete G.Node
  pub nodes : List G.Node
  pub along : Text → G.Node → List G.Node
  pub onward : G.Node → List G.Node
  pub iri? : (label : Text) (n : G.Node) → Dec (G.IriLabel label n)
  pub literal? : (label : Text) (n : G.Node) → Dec (G.LiteralLabel label n)

module _ {G : View} (W : Walkable G) where
  unfoldable pub only_at : {Q : Type 0} → G.Node → Dec Q → List G.Node
  only_at n (yes q) = n ∷ []
  only_at n (no q) = []

  unfoldable pub if_any : G.Node → List G.Node → List G.Node
  if_any n [] = []
  if_any n (m ∷ ms) = n ∷ []

  -- the nodes that the expression joins n to
  unfoldable pub reaches : Expr → G.Node → List G.Node
  unfolding only_at if_any flat_map grow
  reaches stay n = n ∷ []
  reaches (Q.step name) n = W.along name n
  reaches any_step n = W.onward n
  reaches (at_iri label) n = only_at n (W.iri? label n)
  reaches (at_literal label) n = only_at n (W.literal? label n)
  reaches (nested e) n = if_any n (reaches e n)
  reaches (sequence e f) n = flat_map (reaches f) (reaches e n)
  reaches (union e f) n = reaches e n ++ reaches f n
  reaches (star e) n = grow W.same (n ∷ []) (reaches e) (length W.nodes) (n ∷ [])

-- what must be shown of such a graph
pub record Walks (G : View) (W : Walkable G) : Type 0 where
  pub nodes_iff : (n : G.Node) → (n ∈ W.nodes) ↔ G.IsNode n
  pub along_iff : (name : Text) (n m : G.Node) → (m ∈ W.along name n) ↔ ((p : ℕ) × G.Names name p × G.Edge n p m)
  pub onward_iff : (n m : G.Node) → (m ∈ W.onward n) ↔ ((p : ℕ) × G.Edge n p m)

module _ {G : View} (W : Walkable G) (w : Walks G W) (c : Closed G) where
  at_iff : {Q : Type 0} (n m : G.Node) (d : Dec Q) → (m ∈ only_at W n d) ↔ (Q × (n ≡ m))
  unfolding only_at
  at_iff n m (yes q) = (λ h. (q, single h), λ h. here (sym h.1))
    where
      single : m ∈ (n ∷ []) → n ≡ m
      single (here e) = sym e
      single (there i) = elim i [ ]
  at_iff n m (no q) = (λ h. elim h [ ], λ h. absurd (q h.0))

  any_iff : (n m : G.Node) (l : List G.Node) → (m ∈ if_any W n l) ↔ ((n ≡ m) × (k : G.Node) × (k ∈ l))
  unfolding if_any
  any_iff n m [] = (λ h. elim h [ ], λ h. elim h.2 [ ])
  any_iff n m (k ∷ ks) = (λ h. (single h, k, here refl), λ h. here (sym h.0))
    where
      single : m ∈ (n ∷ []) → n ≡ m
      single (here e) = sym e
      single (there i) = elim i [ ]

  abbrev pub Meets : Expr → Type 0
  Meets e = (n m : G.Node) → G.IsNode n → (m ∈ reaches W e n) ↔ Joins G e n m

  -- repeated passes, as reachability
  module _ (e : Expr) (meets : Meets e) where
    passes_reached : {n m : G.Node} → Repeated (Joins G e) n m → Reached W.same (n ∷ []) (reaches W e) m
    passes_reached (none q) = seed (here (sym q))
    passes_reached (more {k} {m} a r) = step (passes_reached a) ((meets k m (starts c e k m r)).1 r)

    reached_passes : {n m : G.Node} → G.IsNode n → Reached W.same (n ∷ []) (reaches W e) m → Repeated (Joins G e) n m
    reached_passes {n} {m} i (seed h) = none (single h)
      where
        single : m ∈ (n ∷ []) → n ≡ m
        single (here q) = sym q
        single (there j) = elim j [ ]
    reached_passes i (step {x} {y} r h) =
        let a = reached_passes i r in more a ((meets x y (last c (Joins G e) (ends c e) i a)).0 h)

    star_iff : (n m : G.Node) → G.IsNode n → (m ∈ grow W.same (n ∷ []) (reaches W e) (length W.nodes) (n ∷ [])) ↔ Repeated (Joins G e) n m
    star_iff n m i =
        let r =
        reach_iff W.same (n ∷ []) (reaches W e) W.nodes (λ x h. (w.nodes_iff x).1 (last c (Joins G e) (ends c e) i (reached_passes i h)))
        (length W.nodes) (le_refl (length W.nodes)) m in
        (λ h. reached_passes i (r.0 h), λ h. r.1 (passes_reached h))

  -- the computed ends are the meaning's
  pub reaches_iff : (e : Expr) → Meets e
  unfolding reaches Joins
  reaches_iff stay n m i = (λ h. (i, single h), λ j. here (sym j.1))
    where
      single : m ∈ (n ∷ []) → n ≡ m
      single (here q) = sym q
      single (there j) = elim j [ ]
  reaches_iff (Q.step name) n m i = w.along_iff name n m
  reaches_iff any_step n m i = w.onward_iff n m
  reaches_iff (at_iri label) n m i =
      let r = at_iff n m (W.iri? label n) in (λ h. (i, (r.0 h).0, (r.0 h).1), λ j. r.1 (j.1, j.2))
  reaches_iff (at_literal label) n m i =
      let r = at_iff n m (W.literal? label n) in (λ h. (i, (r.0 h).0, (r.0 h).1), λ j. r.1 (j.1, j.2))
  reaches_iff (nested e) n m i =
      let r = any_iff n m (reaches W e n) in
      (λ h. let a = r.0 h in (a.0, a.1, (reaches_iff e n a.1 i).0 a.2), λ j. r.1 (j.0, j.1, (reaches_iff e n j.1 i).1 j.2))
  reaches_iff (sequence e f) n m i = (
    λ h. let r = joined_only (reaches W f) (reaches W e n) h in
        let a = (reaches_iff e n r.0 i).0 r.1 in
        (r.0, a, (reaches_iff f r.0 m (ends c e n r.0 a)).0 r.2),
    λ j. joined_in (reaches W f) ((reaches_iff e n j.0 i).1 j.1) ((reaches_iff f j.0 m (ends c e n j.0 j.1)).1 j.2),
  )
  reaches_iff (union e f) n m i = (
    λ h. forth (Memᴰ.append_cases (reaches W e n) h) (reaches_iff e n m i).0 (reaches_iff f n m i).0,
    λ j. ∈_append (reaches W e n) (reaches W f n) (back j (reaches_iff e n m i).1 (reaches_iff f n m i).1),
  )
    where
      forth : {A B C D : Type 0} → A ⊎ B → (A → C) → (B → D) → C ⊎ D
      forth (inl a) f g = inl (f a)
      forth (inr b) f g = inr (g b)

      back : {A B C D : Type 0} → A ⊎ B → (A → C) → (B → D) → C ⊎ D
      back (inl a) f g = inl (f a)
      back (inr b) f g = inr (g b)
  reaches_iff (star e) n m i = let r = star_iff e (reaches_iff e) n m i in (λ h. (i, r.0 h), λ j. r.1 j.1)

-- ---- yes or no

unfoldable pub nonempty : {A : Type 0} → List A → Bool
nonempty [] = false
nonempty (x ∷ xs) = true

unfoldable pub answers_yes : {G : View} → Walkable G → Expr → Bool
unfolding reaches nonempty
answers_yes W e = any (λ n. nonempty (reaches W e n)) W.nodes

module _ {G : View} (W : Walkable G) (w : Walks G W) (c : Closed G) where
  pub yes_computed : (e : Expr) → T (answers_yes W e) ↔ Satisfied G e
  unfolding answers_yes Satisfied nonempty
  yes_computed e = (forth, back)
    where
      first : (l : List G.Node) → T (nonempty l) → (m : G.Node) × (m ∈ l)
      first [] h = absurd h
      first (m ∷ ms) h = (m, here refl)

      filled : {m : G.Node} (l : List G.Node) → m ∈ l → T (nonempty l)
      filled [] h = elim h [ ]
      filled (k ∷ ks) h = tt

      forth : T (answers_yes W e) → Satisfied G e
      forth h =
          let r = any_only (λ n. nonempty (reaches W e n)) W.nodes h in
          let k = first (reaches W e r.0) r.2 in
          (r.0, k.0, (reaches_iff W w c e r.0 k.0 ((w.nodes_iff r.0).0 r.1)).0 k.1)

      back : Satisfied G e → T (answers_yes W e)
      back s =
          let i = starts c e s.0 s.1 s.2 in
          any_in (λ n. nonempty (reaches W e n)) ((w.nodes_iff s.0).1 i) (filled (reaches W e s.0) ((reaches_iff W w c e s.0 s.1 i).1 s.2))
