-- Certain answers, computed: for a pack that is refused by none of 7, 10 and 11, and a spelling whose matches are decided.
-- Assumes nothing.
use lib.Dec.{T}
use lib.ListN.{get_elem?}
use mathlib.Core.Bool.{false}
use mathlib.Core.List.Memᴰ.{map as ∈-map}
use mathlib.Core.List.{List, [], ◌∷◌, map}
use mathlib.Core.Logic.Iff
use mathlib.Core.Logic.{◌↔◌, inl, inr}
use mathlib.Core.Option.{none, some}
use mathlib.Core.Path.{◌≡◌, subst, sym, ◌∙◌}
use Prim.Native.Nat.{ℕ}
use Rattle.meaning.proofs.Computed.Evaluate.{Walkable, Walks, answers_yes, yes_computed}
use Rattle.meaning.proofs.Computed.Walk.{Decided, pairs_computed, pairs_of, walk, walks}
use Rattle.meaning.proofs.Lists.Members.{element, ∈_map⁻¹}
use Rattle.meaning.proofs.Lists.Sorted.{sorted, sorted_ascending, sorted_iff}
use Rattle.meaning.proofs.Model.Built.{built_edges, built_nodes, enumerate}
use Rattle.meaning.proofs.Model.Clash.{Shows, first_shown, first_clash}
use Rattle.meaning.proofs.Model.Listing.{node_at, node_list, node_list_ordered, only_node_at, place_in}
use Rattle.meaning.proofs.Model.Refusals.{mixed_iff, mixed_kinds?}
use Rattle.meaning.proofs.Model.Resolved.{Resolved, resolved}
use Rattle.meaning.proofs.Theory.Simulated.{built_closed, is_core}
use Rattle.meaning.proofs.Theory.Simulation.{ends, starts}
use Rattle.meaning.proofs.Theory.Theorem.{certain_pair, certain_yes}
use Rattle.meaning.specs.Built.{IsBuilt, core}
use Rattle.meaning.specs.Certain.{CertainYes, Distinct, PairList, PairRecord, built}
use Rattle.meaning.specs.Core.{Node}
use Rattle.meaning.specs.Graph.{Spelling}
use Rattle.meaning.specs.Member.{◌∈◌}
use Rattle.meaning.specs.NoGraph.{NoGraph}
use Rattle.meaning.specs.Pack.{Pack}
use Rattle.meaning.specs.Query.{Expr, Joins}
use Rattle.meaning.specs.WellFormed.{dangling}

module _ (σ : Spelling) (D : Decided σ) (P : Pack) where
  -- the built graph, to be walked
  unfoldable pub walk_built : Walkable (built σ P)
  unfolding walk built_nodes built_edges
  walk_built = walk σ D P (built_nodes P) (built_edges P)

  unfoldable pub pair_numbers : Node × Node → List ℕ
  unfolding place_in node_list
  pair_numbers q = place_in (core q.0) (node_list P) ∷ place_in (core q.1) (node_list P) ∷ []

  -- the named pairs that the query joins in the built graph, by node numbers, ascending
  unfoldable pub pair_records : Expr → List (List ℕ)
  unfolding walk_built pairs_of pair_numbers sorted
  pair_records e = sorted (λ t. t) (map pair_numbers (pairs_of σ P walk_built e))

  module _ (not-7 : dangling P ≡ false) (distinct : Distinct σ P) (not_10 : first_clash P ≡ none) (not_11 : mixed_kinds? P ≡ false) where
    abbrev wf : Resolved P
    wf = resolved P not-7

    pub graph_there : ¬ NoGraph P
    graph_there (inl c) = subst (Shows P) not_10 (first_shown P wf) c
    graph_there (inr c) = subst T not_11 ((mixed_iff P wf).1 c)

    walks_built : Walks (built σ P) walk_built
    unfolding walk_built enumerate
    walks_built = walks σ D P (enumerate P wf)

    -- the computed yes is the certain one
    pub yes_computed_certain : (e : Expr) → T (answers_yes walk_built e) ↔ CertainYes σ P e
    yes_computed_certain e =
        Iff.trans (yes_computed walk_built walks_built (built_closed σ P) e) (Iff.symm (certain_yes P not-7 σ distinct graph_there e))

    -- the computed pair list is the list of the certain pairs
    pub pairs_listed : (e : Expr) → PairList σ P e (node_list P) (pair_records e)
    unfolding pair_records
    pairs_listed e = record {
      ascending = sorted_ascending (λ t. t) (λ x y q. q) (map pair_numbers (pairs_of σ P walk_built e));
      members = λ t. Iff.trans (sorted_iff (λ t. t) (λ x y q. q) (map pair_numbers (pairs_of σ P walk_built e)) t) (made t, from_record t);
    }
      where
        joins : (n m : Node) → ((n, m) ∈ pairs_of σ P walk_built e) ↔ Joins (built σ P) e (core n) (core m)
        joins = pairs_computed σ P walk_built walks_built e

        made : (t : List ℕ) → t ∈ map pair_numbers (pairs_of σ P walk_built e) → PairRecord σ P e (node_list P) t
        made t h =
            let r = ∈_map⁻¹ pair_numbers (pairs_of σ P walk_built e) h in
            let j = (joins r.0.0 r.0.1).0 r.1 in
            let i = starts (built_closed σ P) e (core r.0.0) (core r.0.1) j in
            let k = ends (built_closed σ P) e (core r.0.0) (core r.0.1) j in
            record {
              start = place_in (core r.0.0) (node_list P);
              end = place_in (core r.0.1) (node_list P);
              from = r.0.0;
              to = r.0.1;
              from_at = node_at P wf i;
              to_at = node_at P wf k;
              certain = (certain_pair P not-7 σ distinct graph_there e r.0.0 r.0.1 (is_core σ P i) (is_core σ P k)).1 j;
              are = r.2;
            }

        built_at : (i : ℕ) (n : Node) → get_elem? (node_list P) i ≡ some (core n) → IsBuilt P (core n)
        built_at i n e = ((node_list_ordered P wf).members (core n)).0 (element (node_list P) i (core n) e)

        from_record : (t : List ℕ) → PairRecord σ P e (node_list P) t → t ∈ map pair_numbers (pairs_of σ P walk_built e)
        from_record t r =
            let i = is_core σ P (built_at r.start r.from r.from_at) in
            let k = is_core σ P (built_at r.end r.to r.to_at) in
            let j = (certain_pair P not-7 σ distinct graph_there e r.from r.to i k).0 r.certain in
            subst (λ x. x ∈ map pair_numbers (pairs_of σ P walk_built e))
            (sym (λ d. only_node_at P wf r.start (core r.from) r.from_at d ∷ only_node_at P wf r.end (core r.to) r.to_at d ∷ []) ∙ sym r.are)
            (∈-map pair_numbers ((joins r.from r.to).1 j))
