-- An expression joins two places exactly if it joins the nodes there. Assumes nothing.
use lib.ListN.{get_elem?}
use Rattle.std.proofs.Common.{◌≡◌, ℕ, ◌↔◌, List, sym, refl, subst, inl, inr}
use mathlib.Core.Option.{some}
use Rattle.meaning.proofs.Lists.Members.{element}
use Rattle.meaning.proofs.Lists.Places.{inside, placed, same_at, there_is}
use Rattle.meaning.specs.Query.{Expr, stay, step, any_step, at_iri, at_literal, nested, sequence, union, star, View, Repeated, none, more, Joins, Satisfied}
use Rattle.walk.proofs.Meanings.{joins_from, joins_to}
use Rattle.walk.specs.Walk.{EdgesJoinNodes}
use Rattle.evaluate.specs.Listed.{Between, ListsNodes, places}

-- ---- what is joined

module _ (G : View) (nodes : List G.Node) (L : ListsNodes G nodes) (whole : EdgesJoinNodes G) where
  abbrev S : View
  S = places G nodes

  is_node : (n : ℕ) {b : G.Node} → get_elem? nodes n ≡ some b → G.IsNode b
  is_node n {b} e = (L.listed b).0 (element nodes n b e)

  place_of : (b : G.Node) → G.IsNode b → (n : ℕ) × (get_elem? nodes n ≡ some b)
  place_of b h = placed ((L.listed b).1 h)

  -- from places to nodes
  pub joined : (e : Expr) (n m : ℕ) → Joins S e n m → Between G nodes n m (Joins G e)
  unfolding Joins
  joined stay n m (l, p) =
      let (b, x) = there_is nodes n l in
      record { from = b; to = b; from_at = x; to_at = subst (λ k. get_elem? nodes k ≡ some b) p x; holds = (is_node n x, refl) }
  joined (step s) n m (p, c, x) = record { from = x.from; to = x.to; from_at = x.from_at; to_at = x.to_at; holds = (p, c, x.holds) }
  joined any_step n m (p, x) = record { from = x.from; to = x.to; from_at = x.from_at; to_at = x.to_at; holds = (p, x.holds) }
  joined (at_iri s) n m (l, x, p) =
      record { from = x.node; to = x.node; from_at = x.at; to_at = subst (λ k. get_elem? nodes k ≡ some x.node) p x.at; holds = (is_node n x.at, x.holds, refl) }
  joined (at_literal s) n m (l, x, p) =
      record { from = x.node; to = x.node; from_at = x.at; to_at = subst (λ k. get_elem? nodes k ≡ some x.node) p x.at; holds = (is_node n x.at, x.holds, refl) }
  joined (nested e) n m (p, k, x) =
      let r = joined e n k x in
      record { from = r.from; to = r.from; from_at = r.from_at; to_at = subst (λ k. get_elem? nodes k ≡ some r.from) p r.from_at; holds = (refl, r.to, r.holds) }
  joined (sequence e f) n m (k, x, y) =
      let r = joined e n k x in
      let s = joined f k m y in
      record {
        from = r.from;
        to = s.to;
        from_at = r.from_at;
        to_at = s.to_at;
        holds = (r.to, r.holds, subst (λ b. Joins G f b s.to) (same_at nodes k s.from_at r.to_at) s.holds);
      }
  joined (union e f) n m (inl x) = let r = joined e n m x in record { from = r.from; to = r.to; from_at = r.from_at; to_at = r.to_at; holds = inl r.holds }
  joined (union e f) n m (inr x) = let r = joined f n m x in record { from = r.from; to = r.to; from_at = r.from_at; to_at = r.to_at; holds = inr r.holds }
  joined (star e) n m (l, x) =
      let r = go (λ k m j. joined e k m j) m x in
      record { from = b; to = r.0; from_at = at; to_at = r.1; holds = (is_node n at, r.2) }
    where
      b : G.Node
      b = (there_is nodes n l).0

      at : get_elem? nodes n ≡ some b
      at = (there_is nodes n l).1

      go : ((k m : ℕ) → Joins S e k m → Between G nodes k m (Joins G e)) → (m : ℕ) → Repeated (Joins S e) n m
          → (c : G.Node) × (get_elem? nodes m ≡ some c) × Repeated (Joins G e) b c
      go one m (none p) = (b, subst (λ k. get_elem? nodes k ≡ some b) p at, none refl)
      go one m (more {k = k} r x) =
          let q = go one k r in
          let s = one k m x in
          (s.to, s.to_at, more q.2 (subst (λ y. Joins G e y s.to) (same_at nodes k s.from_at q.1) s.holds))

  -- from nodes to places
  pub joined_back : (e : Expr) (n m : ℕ) (b c : G.Node) → get_elem? nodes n ≡ some b → get_elem? nodes m ≡ some c → Joins G e b c → Joins S e n m
  unfolding Joins
  joined_back stay n m b c x y (h, p) = (inside nodes n b x, L.once b n m x (subst (λ d. get_elem? nodes m ≡ some d) (sym p) y))
  joined_back (step s) n m b c x y (p, a, h) = (p, a, record { from = b; to = c; from_at = x; to_at = y; holds = h })
  joined_back any_step n m b c x y (p, h) = (p, record { from = b; to = c; from_at = x; to_at = y; holds = h })
  joined_back (at_iri s) n m b c x y (h, a, p) =
      (inside nodes n b x, record { node = b; at = x; holds = a }, L.once b n m x (subst (λ d. get_elem? nodes m ≡ some d) (sym p) y))
  joined_back (at_literal s) n m b c x y (h, a, p) =
      (inside nodes n b x, record { node = b; at = x; holds = a }, L.once b n m x (subst (λ d. get_elem? nodes m ≡ some d) (sym p) y))
  joined_back (nested e) n m b c x y (p, k, h) =
      let (i, z) = place_of k (joins_to G whole e b k h) in
      (L.once b n m x (subst (λ d. get_elem? nodes m ≡ some d) (sym p) y), i, joined_back e n i b k x z h)
  joined_back (sequence e f) n m b c x y (k, h, g) =
      let (i, z) = place_of k (joins_to G whole e b k h) in
      (i, joined_back e n i b k x z h, joined_back f i m k c z y g)
  joined_back (union e f) n m b c x y (inl h) = inl (joined_back e n m b c x y h)
  joined_back (union e f) n m b c x y (inr h) = inr (joined_back f n m b c x y h)
  joined_back (star e) n m b c x y (h, r) = (inside nodes n b x, go (λ k m d c z y g. joined_back e k m d c z y g) c m y r)
    where
      go : ((k m : ℕ) (d c : G.Node) → get_elem? nodes k ≡ some d → get_elem? nodes m ≡ some c → Joins G e d c → Joins S e k m)
          → (c : G.Node) (m : ℕ) → get_elem? nodes m ≡ some c → Repeated (Joins G e) b c → Repeated (Joins S e) n m
      go one c m y (none p) = none (L.once b n m x (subst (λ d. get_elem? nodes m ≡ some d) (sym p) y))
      go one c m y (more {k = k} r g) =
          let (i, z) = place_of k (joins_from G whole e k c g) in
          more (go one k i z r) (one i m k c z y g)

  -- satisfied by places exactly if by nodes
  pub satisfied : (e : Expr) → Satisfied S e ↔ Satisfied G e
  unfolding Satisfied
  satisfied e = (
    (λ (n, m, j). let r = joined e n m j in (r.from, r.to, r.holds)),
    (λ (b, c, j).
        let (n, x) = place_of b (joins_from G whole e b c j) in
        let (m, y) = place_of c (joins_to G whole e b c j) in
        (n, m, joined_back e n m b c x y j)),
  )
