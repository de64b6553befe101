-- The triple keys of all heads are the keys of the core's triples. Assumes nothing.
use borrow.Author.Tests.{lt-ltb, le-ltb}
use lib.ListN.{get_elem?}
use Rattle.std.specs.Prelude.{◌≡◌, ℕ, zero, suc, ◌<◌, ◌↔◌, List, [], ◌∷◌, map}
use mathlib.Core.Logic.{inr}
use mathlib.Core.Option.{some, none-ne-some, some-injective}
use mathlib.Core.Path.{refl, sym, ap, ap₂, ◌∙◌, subst}
use native.Mathlib.Omega.{arith}
use Rattle.core_graph.proofs.NodeSources.{Fine, bytes_of, fine}
use Rattle.core_graph.proofs.Sources.{Source, link_object, link_subject, value_object, value_subject}
use Rattle.core_graph.proofs.TripleKeys.{link_triple, no_triple}
use Rattle.core_graph.specs.Bounds.{Bounded}
use Rattle.core_graph.specs.Collected.{triple_keys}
use Rattle.core_graph.specs.CoreHeld.{NodeKey, TripleKey}
use Rattle.spread.specs.Keys.{key_of, triple_key}
use Rattle.meaning.proofs.Lists.Members.{element, ∈_append}
use Rattle.meaning.proofs.Lists.Places.{entry_at}
use Rattle.meaning.proofs.Model.Resolved.{head_terms, head_variables}
use Rattle.meaning.specs.Core.{Assignment, CoreNode, Fact, Given, Node, as_object, as_subject, head_fact, triple, typed}
use Rattle.meaning.specs.Member.{◌∈◌, here, there}
use Rattle.meaning.specs.Ordered.{InOrder, ListOf, before}
use Rattle.meaning.specs.Pack.{Head, Pack, has_type, links_to, links_to_value}
use Rattle.meaning.specs.Tables.{packed, head_arguments, head_numbers}
use Rattle.sets.proofs.Rank.{rank_member}
use Rattle.sets.specs.Ordered.{rank_of}

-- ---- places in an ascending list are ranks

pub rank_at : (x : ℕ) (xs : List ℕ) (i : ℕ) → InOrder ◌<◌ xs → get_elem? xs i ≡ some x → rank_of x xs ≡ i
rank_at x [] i a e = absurd (none-ne-some x e)
rank_at x (y ∷ ys) zero a e = let q : y ≡ x = some-injective y x e in rw (le-ltb y x (omega arith))
rank_at x (y ∷ ys) (suc i) (before p a) e = rw (lt-ltb y x (p x (element ys i x e))) (ap suc (rank_at x ys i a e))

pub at_rank : (x : ℕ) (xs : List ℕ) → InOrder ◌<◌ xs → x ∈ xs → get_elem? xs (rank_of x xs) ≡ some x
at_rank x xs a m = let r = rank_member x xs a m in entry_at xs (rank_of x xs) r.inside ∙ ap some r.is

-- ---- the triple of a head

module _ (nodes : List ℕ) where
  unfoldable pub triple_in : Fact → List ℕ
  unfolding triple_key key_of
  triple_in (typed n S) = []
  triple_in (triple n p m) = triple_key (rank_of (key_of n) nodes) p (rank_of (key_of m) nodes) ∷ []

  pub triples_are : (σ : Assignment) (h : Head) → Fine σ h → triple_keys nodes (head_numbers h) (packed (map σ (head_arguments h))) ≡ triple_in (head_fact σ h)
  unfolding triple_in head_fact head_terms head_variables head_numbers
  triples_are σ (has_type s t) f = no_triple nodes (head_numbers (has_type s t)) _ refl
  triples_are σ (links_to s p o) f =
      let l = f.short s (here refl) in
      let m = f.short o (there (here refl)) in
      let b = bytes_of σ o.variables (λ v i. f.small v (∈_append s.variables o.variables (inr i))) in
      link_triple nodes (head_numbers (links_to s p o)) _ (λ e. omega arith)
      ∙ ap₂ (λ x y. triple_key (rank_of x nodes) p (rank_of y nodes) ∷ []) (link_subject σ s l o m b p) (link_object σ s l o m b p)
  triples_are σ (links_to_value s p v) f =
      let l = f.short s (here refl) in
      let b = f.small v (here refl) in
      link_triple nodes (head_numbers (links_to_value s p v)) _ (λ e. omega arith)
      ∙ ap₂ (λ x y. triple_key (rank_of x nodes) p (rank_of y nodes) ∷ []) (value_subject σ s l p v b) (value_object σ s l p v b)

  module _ {P : Pack} (b : Bounded P) (l : ListOf ◌<◌ (NodeKey P) nodes) where
    place : {n : Node} → CoreNode P n → get_elem? nodes (rank_of (key_of n) nodes) ≡ some (key_of n)
    place {n} c = at_rank (key_of n) nodes l.ascending ((l.members (key_of n)).1 (record { node = n; in_core = c; is = refl }))

    key_of_lem : (y : ℕ) (f : Fact) → Given P f → y ∈ triple_in f → TripleKey P nodes y
    unfolding triple_in
    key_of_lem y (typed n S) g m = elim m [ ]
    key_of_lem y (triple n p m) g (here e) = record {
      subject = rank_of (key_of n) nodes;
      predicate = p;
      object = rank_of (key_of m) nodes;
      from = n;
      to = m;
      from_at = place (as_subject g);
      to_at = place (as_object g);
      edge = g;
      is = e;
    }
    key_of_lem y (triple n p m) g (there i) = elim i [ ]

    of_key : (y : ℕ) (t : TripleKey P nodes y) → y ∈ triple_in (triple t.from t.predicate t.to)
    unfolding triple_in
    of_key y t =
        here (t.is
        ∙ ap₂ (λ s o. triple_key s t.predicate o) (sym (rank_at (key_of t.from) nodes t.subject l.ascending t.from_at))
        (sym (rank_at (key_of t.to) nodes t.object l.ascending t.to_at)))

    pub triple_sources : (y : ℕ) → Source P (λ head k x. x ∈ triple_keys nodes head k) y ↔ TripleKey P nodes y
    triple_sources y = (forth, back)
      where
        forth : Source P (λ head k x. x ∈ triple_keys nodes head k) y → TripleKey P nodes y
        forth s =
            key_of_lem y (head_fact s.values s.rule.head)
            (record { rule = s.rule; listed = s.listed; values = s.values; matches = s.matches; says = refl })
            (subst (λ (xs : List ℕ). y ∈ xs) (triples_are s.values s.rule.head (fine b s.listed s.values s.matches)) s.gives)

        back : TripleKey P nodes y → Source P (λ head k x. x ∈ triple_keys nodes head k) y
        back t =
            let g = t.edge in
            record {
              rule = g.rule;
              listed = g.listed;
              values = g.values;
              matches = g.matches;
              gives =
                  subst (λ (xs : List ℕ). y ∈ xs) (sym (triples_are g.values g.rule.head (fine b g.listed g.values g.matches)))
                  (subst (λ f. y ∈ triple_in f) (sym g.says) (of_key y t));
            }
