-- What the passes over a pack's heads answer, said of the pack. Assumes nothing.
use Rattle.std.specs.Prelude.{Result, Ok, Err, ℕ, ◌<◌, ◌≤◌, List, take}
use Rattle.core_graph.specs.Bounds.{Bounded}
use Rattle.core_graph.specs.Collected.{FromRules, SetGrown, node_keys, triple_keys}
use Rattle.core_graph.specs.Heads.{HeadsHeld}
use Rattle.core_graph.specs.CoreHeld.{CoreHeld, NodeKey, TripleKey, TypesAt}
use Rattle.spread.specs.Rounds.{SettledIn}
use Rattle.core_graph.specs.declared.CoreSize.{CoreSize}
use Rattle.sets.specs.declared.ordered.Full.{Full}
use Rattle.meaning.specs.Limits.{max_core_nodes, max_core_triples, max_iris}
use Rattle.meaning.specs.Member.{◌∈◌}
use Rattle.meaning.specs.NoGraph.{CoreIri, CoreTriple, TooLarge as CoreTooLarge}
use Rattle.meaning.specs.Ordered.{ListOf, Over}
use Rattle.meaning.specs.Pack.{Pack}
use Rattle.shapes.specs.Shapes.{Tabled}

-- The node keys: all of them in the first m places, or the core has too many IRIs.
pub record NodeKeysListed (m : ℕ) (rules : List (List ℕ)) (count : ℕ) (heads counts before after : List ℕ) : Type 0 where
  pub grown : SetGrown (FromRules (λ head k y. y ∈ node_keys head k) rules count heads counts) 0 m before after
  pub list : (P : Pack) → HeadsHeld P rules count heads counts → Bounded P → ListOf ◌<◌ (NodeKey P) (take m after)
  pub within : (P : Pack) → HeadsHeld P rules count heads counts → Bounded P → ¬ Over max_iris (CoreIri P)

abbrev pub NodesAnswer : Result ℕ Full → List (List ℕ) → ℕ → List ℕ → List ℕ → List ℕ → List ℕ → Type 0
NodesAnswer (Ok m) rules count heads counts before after = NodeKeysListed m rules count heads counts before after
NodesAnswer (Err _) rules count heads counts before after =
    (P : Pack) → HeadsHeld P rules count heads counts → Bounded P → Over max_iris (CoreIri P)

-- The triple keys, by the places of the nodes: all of them in the first m places, or the core has too many triples.
pub record TripleKeysListed (m : ℕ) (nodes : List ℕ) (rules : List (List ℕ)) (count : ℕ) (heads counts before after : List ℕ) : Type 0 where
  pub grown : SetGrown (FromRules (λ head k y. y ∈ triple_keys nodes head k) rules count heads counts) 0 m before after
  pub list : (P : Pack) → HeadsHeld P rules count heads counts → Bounded P → ListOf ◌<◌ (NodeKey P) nodes → ListOf ◌<◌ (TripleKey P nodes) (take m after)
  pub within : (P : Pack) → HeadsHeld P rules count heads counts → Bounded P → ListOf ◌<◌ (NodeKey P) nodes → ¬ Over max_core_triples (CoreTriple P)

abbrev pub TriplesAnswer : Result ℕ Full → List ℕ → List (List ℕ) → ℕ → List ℕ → List ℕ → List ℕ → List ℕ → Type 0
TriplesAnswer (Ok m) nodes rules count heads counts before after = TripleKeysListed m nodes rules count heads counts before after
TriplesAnswer (Err _) nodes rules count heads counts before after =
    (P : Pack) → HeadsHeld P rules count heads counts → Bounded P → ListOf ◌<◌ (NodeKey P) nodes → Over max_core_triples (CoreTriple P)

-- The types of the nodes, as masks by place, and in how many rounds they spread.
abbrev pub TypesAnswer : ℕ → List (List ℕ) → List (List ℕ) → ℕ → List ℕ → List ℕ → List ℕ → List ℕ → List ℕ → Type 0
TypesAnswer rounds table rules count heads counts nodes triples masks =
    (P : Pack) → HeadsHeld P rules count heads counts → Bounded P → Tabled P.setting table → ListOf ◌<◌ (NodeKey P) nodes
    → ListOf ◌<◌ (TripleKey P nodes) triples → TypesAt P nodes masks × SettledIn P nodes triples rounds masks

-- The whole core: n nodes and t triples, its types spread in so many rounds; or that it is too large (9: "The core has over 512
-- IRI nodes or 1,024 triples.").
pub record CoreListed (n t rounds : ℕ) (table rules : List (List ℕ)) (count : ℕ) (heads counts nodes triples masks : List ℕ) : Type 0 where
  pub few_nodes : n ≤ max_core_nodes
  pub few_triples : t ≤ max_core_triples
  pub held : (P : Pack) → HeadsHeld P rules count heads counts → Bounded P → Tabled P.setting table
      → CoreHeld P (take n nodes) (take t triples) masks
  pub settled : (P : Pack) → HeadsHeld P rules count heads counts → Bounded P → Tabled P.setting table
      → SettledIn P (take n nodes) (take t triples) rounds masks
  pub within : (P : Pack) → HeadsHeld P rules count heads counts → Bounded P → ¬ CoreTooLarge P

abbrev pub CoreAnswer : Result CoreSize Full → List (List ℕ) → List (List ℕ) → ℕ → List ℕ → List ℕ → List ℕ → List ℕ → List ℕ → Type 0
CoreAnswer (Ok s) table rules count heads counts nodes triples masks = CoreListed s.nodes s.triples s.rounds table rules count heads counts nodes triples masks
CoreAnswer (Err _) table rules count heads counts nodes triples masks =
    (P : Pack) → HeadsHeld P rules count heads counts → Bounded P → CoreTooLarge P
