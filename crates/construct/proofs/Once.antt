-- What a pack comes to is fixed by its bytes: two answers to one pack are equal and give the same records
-- (`constructs-fixed`). Assumes nothing.
use Rattle.std.proofs.Common.{◌≡◌, ℕ, List, [], ◌∷◌, length, Result, Ok, Err, sym, ap, ◌∙◌, subst}
use mathlib.Core.List.{flatten}
use Rattle.calls.proofs.Once.{Fixed}
use Rattle.construct.specs.Outcome.{Gives, GivesGraph, NoneObeys, Refuses, SomeObeys, clashing, mixed_kinds, not_accepted, refused_as, too_large, two_objects}
use Rattle.graph.specs.Fronts.{GraphFronts}
use Rattle.graph.specs.declared.Size.{Size}
use Rattle.meaning.proofs.Theory.OneClash.{clash_unique}
use Rattle.meaning.proofs.Theory.OneGraph.{graph_unique, index_unique}
use Rattle.meaning.specs.Clash.{ClashGiven}
use Rattle.meaning.specs.Listing.{GraphLists, SubjectIndex}
use Rattle.meaning.specs.NoGraph.{TooLarge, TwoObjects}
use Rattle.meaning.specs.Pack.{Pack, Text}
use Rattle.meaning.specs.declared.refusal.Refusal.{Refusal}
use Rattle.pack.specs.Checked.{accepted, first_refusal}
use Rattle.pack.proofs.Order.{not_both, one_number, one_pack}

-- ---- one pack

pub accepted_once : (pack : Text) {P Q : Pack} → first_refusal pack ≡ accepted P → first_refusal pack ≡ accepted Q → P ≡ Q
accepted_once pack x y = one_pack x y

-- ---- one refusal

module _ {A : Type 0} {pack : Text} {r s : Result A Refusal} where
  -- of two refusals
  pub one_refusal : Refuses pack r → Refuses pack s → r ≡ s
  one_refusal (not_accepted k e q) (not_accepted m f p) = q ∙ ap refused_as (one_number e f) ∙ sym p
  one_refusal (not_accepted k e q) (too_large P a l p) = not_both e a
  one_refusal (not_accepted k e q) (two_objects P a n o t u v w c p) = not_both e a
  one_refusal (not_accepted k e q) (mixed_kinds P a n o t m p) = not_both e a
  one_refusal (too_large P a l q) (not_accepted m f p) = not_both f a
  one_refusal (too_large P a l q) (too_large Q b k p) = q ∙ sym p
  one_refusal (too_large P a l q) (two_objects Q b n o t u v w c p) = absurd (n (subst TooLarge (one_pack a b) l))
  one_refusal (too_large P a l q) (mixed_kinds Q b n o t m p) = absurd (n (subst TooLarge (one_pack a b) l))
  one_refusal (two_objects P a n o t u v w c q) (not_accepted m f p) = not_both f a
  one_refusal (two_objects P a n o t u v w c q) (too_large Q b l p) = absurd (n (subst TooLarge (one_pack b a) l))
  one_refusal (two_objects P a n o t u v w c q) (two_objects Q b n' o' t' u' v' w' c' p) =
      let (e, f, g, h) = clash_unique Q (subst (λ X. ClashGiven X t u v w) (one_pack a b) c) c' in
      q ∙ (λ i. clashing (e i) (f i) (g i) (h i)) ∙ sym p
  one_refusal (two_objects P a n o t u v w c q) (mixed_kinds Q b n' o' m k p) = absurd (m (subst TwoObjects (one_pack a b) c.clash))
  one_refusal (mixed_kinds P a n o m k q) (not_accepted j f p) = not_both f a
  one_refusal (mixed_kinds P a n o m k q) (too_large Q b l p) = absurd (n (subst TooLarge (one_pack b a) l))
  one_refusal (mixed_kinds P a n o m k q) (two_objects Q b n' o' t u v w c p) = absurd (m (subst TwoObjects (one_pack b a) c.clash))
  one_refusal (mixed_kinds P a n o m k q) (mixed_kinds Q b n' o' m' k' p) = q ∙ sym p

-- a refusal, and a pack that has a graph
module _ {A : Type 0} {pack : Text} {r : Result A Refusal} {P : Pack} (is : first_refusal pack ≡ accepted P) (small : ¬ TooLarge P) (obeyed : SomeObeys P) where
  pub not_refused : Refuses pack r → ⊥
  not_refused (not_accepted k e q) = not_both e is
  not_refused (too_large Q a l q) = small (subst TooLarge (one_pack a is) l)
  not_refused (two_objects Q a n o t u v w c q) = subst NoneObeys (one_pack a is) o obeyed.0 obeyed.1
  not_refused (mixed_kinds Q a n o t m q) = subst NoneObeys (one_pack a is) o obeyed.0 obeyed.1

pub not_given : {A : Type 0} {pack : Text} {r : Result A Refusal} {size : Size} {fronts : List (List ℕ)} → Refuses pack r → GivesGraph pack size fronts → ⊥
not_given x g = not_refused g.has.is g.has.small g.has.obeyed x

-- ---- one graph

module _ {pack : Text} {a b : Size} {fs gs : List (List ℕ)} (g : GivesGraph pack a fs) (h : GivesGraph pack b gs) where
  abbrev G : GraphFronts g.of a.nodes a.triples fs
  G = g.has.graph

  abbrev H : GraphFronts h.of b.nodes b.triples gs
  H = h.has.graph

  pub one_records : (G.listed.node_records_are ≡ H.listed.node_records_are) × (G.listed.triple_records_are ≡ H.listed.triple_records_are)
  one_records =
      graph_unique h.of G.listed.node_records_are H.listed.node_records_are G.listed.triple_records_are H.listed.triple_records_are
      (subst (λ X. GraphLists X G.listed.node_records_are G.listed.triple_records_are) (one_pack g.has.is h.has.is) G.listed.lists) H.listed.lists

  one_count : a.nodes ≡ b.nodes
  one_count = G.listed.node_count ∙ ap length one_records.0 ∙ sym H.listed.node_count

  pub one_index : G.entries ≡ H.entries
  one_index = index_unique (subst (λ (x : List (List ℕ) × ℕ). SubjectIndex x.0 x.1 G.entries) (λ i. (one_records.1 i, one_count i)) G.indexed) H.indexed

  pub one_graph : (a ≡ b) × (fs ≡ gs)
  one_graph =
      let t : a.triples ≡ b.triples = G.listed.triple_count ∙ ap length one_records.1 ∙ sym H.listed.triple_count in (
        λ i. record { nodes = one_count i; triples = t i },
        G.fronts_are
            ∙ (λ i. (G.listed.nodes_are ∙ ap flatten one_records.0 ∙ sym H.listed.nodes_are) i
            ∷ (G.listed.triples_are ∙ ap flatten one_records.1 ∙ sym H.listed.triples_are) i
            ∷ flatten (one_index i) ∷ [])
            ∙ sym H.fronts_are,
      )

not_both_here : (pack : Text) (r s : Result Size Refusal) (fronts : List (List ℕ)) → Refuses pack r → Gives pack s fronts → ⊥
not_both_here pack r (Ok size) fronts x g = not_given x g
not_both_here pack r (Err e) fronts x g = g

one_result : (pack : Text) (r s : Result Size Refusal) (fs gs : List (List ℕ)) → Gives pack r fs → Gives pack s gs → (r ≡ s) × (fs ≡ gs)
one_result pack (Ok a) (Ok b) fs gs g h = let (e, f) = one_graph g h in (ap Ok e, f)
one_result pack (Ok a) (Err d) fs gs g h = absurd h
one_result pack (Err e) s fs gs g h = absurd g

pub constructs_fixed : (pack : Text) → Fixed (Refuses pack) (Gives pack)
constructs_fixed pack = record {
  one_refusal = one_refusal;
  not_both = λ {r} {s} {gs} x g. not_both_here pack r s gs x g;
  one_result = λ {r} {s} {fs} {gs} g h. one_result pack r s fs gs g h;
}
