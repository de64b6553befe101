-- What the passes answer, from what they added. Assumes nothing.
use Rattle.std.specs.Prelude.{◌≡◌, ℕ, ◌+◌, ◌<◌, ◌≤◌, ◌⊎◌, ◌↔◌, List, [], take}
use mathlib.Core.Logic.Iff
use mathlib.Core.Logic.{inr}
use native.Mathlib.Omega.{arith}
use Rattle.core_graph.proofs.Iris.{iris_over, iris_within, many_over}
use Rattle.core_graph.proofs.NodeSources.{node_sources}
use Rattle.core_graph.proofs.Sources.{sources}
use Rattle.core_graph.specs.Bounds.{Bounded}
use Rattle.core_graph.specs.Collected.{Beyond, FromRules, SetGrown, node_keys}
use Rattle.core_graph.specs.Heads.{HeadsHeld}
use Rattle.core_graph.specs.CoreHeld.{NodeKey}
use Rattle.core_graph.specs.Outcomes.{NodeKeysListed}
use Rattle.meaning.specs.Limits.{first_literal, max_iris, max_values}
use Rattle.meaning.specs.Member.{◌∈◌}
use Rattle.meaning.specs.NoGraph.{CoreIri}
use Rattle.meaning.specs.Ordered.{ListOf, Over}
use Rattle.meaning.specs.Pack.{Pack}
use Rattle.sets.specs.Ordered.{rank_of}
use Rattle.meaning.proofs.Lists.SetLists.{list_as}
use Rattle.meaning.proofs.Lists.Members.{only_new}

-- the node keys that the heads give
abbrev Nodes : List (List ℕ) → ℕ → List ℕ → List ℕ → ℕ → Type 0
Nodes rules count heads counts = FromRules (λ head k y. y ∈ node_keys head k) rules count heads counts

module _ {rules : List (List ℕ)} {count : ℕ} {heads counts : List ℕ} where
  module _ (P : Pack) (h : HeadsHeld P rules count heads counts) (b : Bounded P) where
    node_iff : (y : ℕ) → ((y ∈ []) ⊎ Nodes rules count heads counts y) ↔ NodeKey P y
    node_iff y = (λ s. all.0 (only_new s), λ n. inr (all.1 n))
      where
        all : Nodes rules count heads counts y ↔ NodeKey P y
        all = Iff.trans (sources h (λ head k x. x ∈ node_keys head k) y) (node_sources P b y)

    node_list : {m : ℕ} {d d' : List ℕ} → SetGrown (Nodes rules count heads counts) 0 m d d' → ListOf ◌<◌ (NodeKey P) (take m d')
    node_list g = list_as node_iff g.list

    pub nodes_beyond : {k : ℕ} → k ≡ max_iris + max_values → Beyond k (λ y. (y ∈ []) ⊎ Nodes rules count heads counts y) → Over max_iris (CoreIri P)
    nodes_beyond e o = many_over b o.some o.ascending (λ y m. (node_iff y).0 (o.members y m)) (omega (arith, o.over, e))

    pub nodes_over : {m : ℕ} {d d' : List ℕ} → SetGrown (Nodes rules count heads counts) 0 m d d' → max_iris < rank_of first_literal (take m d') → Over max_iris (CoreIri P)
    nodes_over {m} {d' = d'} g l = let n = node_list g in iris_over b (take m d') n.ascending (λ y i. (n.members y).0 i) l

  pub nodes_listed : {m : ℕ} {d d' : List ℕ} → SetGrown (Nodes rules count heads counts) 0 m d d' → rank_of first_literal (take m d') ≤ max_iris
      → NodeKeysListed m rules count heads counts d d'
  nodes_listed {m} {d' = d'} g l = record {
    grown = g;
    list = λ P h b. node_list P h b g;
    within = λ P h b. iris_within b (take m d') (node_list P h b g) l;
  }
