-- What a leaf joins, over the lists. Assumes nothing.
use borrow.Author.Tests.{eq-eqb, eqb-true, ne_eqb}
use lib.ListN.{get_or}
use mathlib.Core.Bool.{true}
use mathlib.Core.List.{[], ◌∷◌}
use mathlib.Core.Path.{refl, subst, sym, ◌∙◌, ◌≡◌}
use native.Mathlib.Decide.{ℕ_discrete}
use native.Mathlib.Omega.{arith}
use Prim.Native.Nat.{ℕ, ◌<◌, ◌≤◌}
use Rattle.states.specs.Lists.{Lists, leaf_at, numbered}
use Rattle.states.specs.Parts.{takes}
use Rattle.index.specs.Triples.{GraphFits, TripleIn, object_at, predicate_at, subject_at}
use Rattle.meaning.specs.Query.{Expr, Joins, any_step, at_iri, at_literal, stay, step}
use Rattle.query.specs.Tree.{kind_of}
use Rattle.walk.specs.Parts.{leaf_by}

-- A leaf of this kind, which wants this number, joins n to m.
pub data LeafJoins (L : Lists) (kind want n m : ℕ) : Type 0 where
  rests : kind ≡ 0 → n < L.nodes → n ≡ m → LeafJoins L kind want n m
  goes : 1 ≤ kind → kind ≤ 2 → (k : ℕ) → k < L.edges → subject_at L.triples k ≡ n → object_at L.triples k ≡ m
      → takes kind want (predicate_at L.triples k) ≡ true → LeafJoins L kind want n m
  is_at : 3 ≤ kind → kind ≤ 4 → n < L.nodes → want ≡ n → n ≡ m → LeafJoins L kind want n m

-- ---- it is what its expression joins

module _ (L : Lists) (i : ℕ) where
  pub is_stay : kind_of L.tree i ≡ 0 → leaf_at L i ≡ stay
  unfolding leaf_by
  is_stay e = rw e

  pub is_any : kind_of L.tree i ≡ 1 → leaf_at L i ≡ any_step
  unfolding leaf_by
  is_any e = rw e

  pub is_step : kind_of L.tree i ≡ 2 → leaf_at L i ≡ step (i ∷ [])
  unfolding leaf_by
  is_step e = rw e

  pub is_iri : kind_of L.tree i ≡ 3 → leaf_at L i ≡ at_iri (i ∷ [])
  unfolding leaf_by
  is_iri e = rw e

  pub is_literal : kind_of L.tree i ≡ 4 → leaf_at L i ≡ at_literal (i ∷ [])
  unfolding leaf_by
  is_literal e = rw e

  takes_any : (k w p : ℕ) → k ≡ 1 → takes k w p ≡ true
  takes_any k w p e = rw (eq-eqb k 1 e)

  takes_named : (k w p : ℕ) → k ≡ 2 → p ≡ w → takes k w p ≡ true
  takes_named k w p e f = rw (ne_eqb k 1 (λ z. omega arith), eq-eqb p w f)

  named_takes : (k w p : ℕ) → k ≡ 2 → takes k w p ≡ true → p ≡ w
  named_takes k w p e h = eqb-true p w (rw (ne_eqb k 1 (λ z. omega arith)) at h)

  module _ (n m : ℕ) where
    pub leaf_says : kind_of L.tree i < 5 → Joins (numbered L) (leaf_at L i) n m → LeafJoins L (kind_of L.tree i) (get_or L.wanted i 0) n m
    unfolding Joins
    leaf_says l j = go (ℕ_discrete (kind_of L.tree i) 0) (ℕ_discrete (kind_of L.tree i) 1) (ℕ_discrete (kind_of L.tree i) 2) (ℕ_discrete (kind_of L.tree i) 3)
      where
        at : (e : Expr) → leaf_at L i ≡ e → Joins (numbered L) e n m
        at e p = subst (λ x. Joins (numbered L) x n m) p j

        go : Dec (kind_of L.tree i ≡ 0) → Dec (kind_of L.tree i ≡ 1) → Dec (kind_of L.tree i ≡ 2) → Dec (kind_of L.tree i ≡ 3)
            → LeafJoins L (kind_of L.tree i) (get_or L.wanted i 0) n m
        go (yes e) b c d = let (h, p) = at stay (is_stay e) in rests e h p
        go (no x) (yes e) c d =
            let (p, t) = at any_step (is_any e) in
            goes (omega arith) (omega arith) t.at t.inside t.subject t.object (takes_any (kind_of L.tree i) (get_or L.wanted i 0) (predicate_at L.triples t.at) e)
        go (no x) (no y) (yes e) d =
            let (p, w, t) = at (step (i ∷ [])) (is_step e) in
            goes (omega arith) (omega arith) t.at t.inside t.subject t.object
            (takes_named (kind_of L.tree i) (get_or L.wanted i 0) (predicate_at L.triples t.at) e (t.predicate ∙ w))
        go (no x) (no y) (no z) (yes e) = let (h, w, p) = at (at_iri (i ∷ [])) (is_iri e) in is_at (omega arith) (omega arith) h (sym w) p
        go (no x) (no y) (no z) (no u) = let (h, w, p) = at (at_literal (i ∷ [])) (is_literal (omega arith)) in is_at (omega arith) (omega arith) h (sym w) p

    pub says_leaf : LeafJoins L (kind_of L.tree i) (get_or L.wanted i 0) n m → Joins (numbered L) (leaf_at L i) n m
    unfolding Joins
    says_leaf (rests e h p) = subst (λ x. Joins (numbered L) x n m) (sym (is_stay e)) (h, p)
    says_leaf (goes l h k lt s o t) = go (ℕ_discrete (kind_of L.tree i) 1)
      where
        triple : TripleIn L.triples L.edges n (predicate_at L.triples k) m
        triple = record { at = k; inside = lt; subject = s; predicate = refl; object = o }

        go : Dec (kind_of L.tree i ≡ 1) → Joins (numbered L) (leaf_at L i) n m
        go (yes e) = subst (λ x. Joins (numbered L) x n m) (sym (is_any e)) (predicate_at L.triples k, triple)
        go (no e) =
            let e' : kind_of L.tree i ≡ 2 = omega arith in
            subst (λ x. Joins (numbered L) x n m) (sym (is_step e'))
            (predicate_at L.triples k, named_takes (kind_of L.tree i) (get_or L.wanted i 0) (predicate_at L.triples k) e' t, triple)
    says_leaf (is_at l h b w p) = go (ℕ_discrete (kind_of L.tree i) 3)
      where
        go : Dec (kind_of L.tree i ≡ 3) → Joins (numbered L) (leaf_at L i) n m
        go (yes e) = subst (λ x. Joins (numbered L) x n m) (sym (is_iri e)) (b, sym w, p)
        go (no e) = subst (λ x. Joins (numbered L) x n m) (sym (is_literal (omega arith))) (b, sym w, p)

-- ---- its nodes

module _ {L : Lists} {kind want n m : ℕ} (g : GraphFits L.nodes L.edges L.triples) where
  pub leaf_from : LeafJoins L kind want n m → n < L.nodes
  leaf_from (rests e h p) = h
  leaf_from (goes l h k lt s o t) = let z = g.subjects k lt in omega arith
  leaf_from (is_at l h b w p) = b

  pub leaf_to : LeafJoins L kind want n m → m < L.nodes
  leaf_to (rests e h p) = omega arith
  leaf_to (goes l h k lt s o t) = let z = g.objects k lt in omega arith
  leaf_to (is_at l h b w p) = omega arith
