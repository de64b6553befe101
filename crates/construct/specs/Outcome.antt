-- What a pack comes to: a refusal of 3 to 11, or its graph (document 01, "The graph" and "Refused, in checking order").
-- Assumes nothing.
use Rattle.std.specs.Prelude.{◌≡◌, ℕ, List, [], ◌∷◌, ◌++◌, Result, Ok, Err, IsOkAnd}
use Rattle.calls.specs.Call.{Contents, Outcome}
use Rattle.graph.specs.Fronts.{GraphFronts, graph_lists}
use Rattle.graph.specs.declared.Size.{Size}
use Rattle.meaning.specs.Clash.{ClashGiven}
use Rattle.meaning.specs.Graph.{Graph, Obeys}
use Rattle.meaning.specs.NoGraph.{MixedKinds, TooLarge, TwoObjects}
use Rattle.meaning.specs.Pack.{Pack, Text}
use Rattle.meaning.specs.Refusals.{refusal_of}
use Rattle.meaning.specs.declared.refusal.Refusal.{Refusal}
use Rattle.meaning.specs.declared.refusal.Refusal.TheVariants.{Clash}
use Rattle.pack.specs.Checked.{accepted, first_refusal, refused}
use Rattle.spelling.specs.Iri.{plain}

-- ---- what is answered

-- A refusal of this number, whatever would be given in its place; 10 is `clashing`.
abbrev pub refused_as : {A : Type 0} → ℕ → Result A Refusal
refused_as k = Err (refusal_of k)

-- 10: "one such node, predicate and two objects are given, the nodes as node records of the core"; the first (card 8)
abbrev pub clashing : {A : Type 0} → List ℕ → ℕ → List ℕ → List ℕ → Result A Refusal
clashing subject predicate first second = Err (Clash (subject ++ (predicate ∷ []) ++ first ++ second))

-- A graph is counted, and nothing else is said.
abbrev pub counted : ℕ → ℕ → Result Size Refusal
counted nodes triples = Ok (record { nodes = nodes; triples = triples })

-- ---- which finite graphs obey the pack, by document 01's spelling

abbrev pub SomeObeys : Pack → Type 0
SomeObeys P = (G : Graph) × Obeys (plain P) P G

abbrev pub NoneObeys : Pack → Type 0
NoneObeys P = (G : Graph) → ¬ Obeys (plain P) P G

-- ---- the outcomes, in checking order

-- Refusals 3 to 11. Demand 3: 10 and 11 only where no finite graph obeys.
pub data Refuses {A : Type 0} (pack : Text) (r : Result A Refusal) : Type 0 where
  not_accepted : (k : ℕ) → first_refusal pack ≡ refused k → r ≡ refused_as k → Refuses pack r
  too_large : (P : Pack) → first_refusal pack ≡ accepted P → TooLarge P → r ≡ refused_as 9 → Refuses pack r
  two_objects : (P : Pack) → first_refusal pack ≡ accepted P → ¬ TooLarge P → NoneObeys P → (subject : List ℕ) (predicate : ℕ) (first second : List ℕ)
      → ClashGiven P subject predicate first second → r ≡ clashing subject predicate first second → Refuses pack r
  mixed_kinds : (P : Pack) → first_refusal pack ≡ accepted P → ¬ TooLarge P → NoneObeys P → ¬ TwoObjects P → MixedKinds P → r ≡ refused_as 11
      → Refuses pack r

-- The pack is P, which passes 3 to 9 and which some finite graph obeys; its graph has n nodes and t triples, and these are
-- their numbers.
pub record HasGraph (pack : Text) (P : Pack) (n t : ℕ) (fronts : List (List ℕ)) : Type 0 where
  pub is : first_refusal pack ≡ accepted P
  pub small : ¬ TooLarge P
  pub obeyed : SomeObeys P
  pub graph : GraphFronts P n t fronts

-- The pack's graph has this size; its numbers stand at the front of the lists.
pub record GivesGraph (pack : Text) (size : Size) (fronts : List (List ℕ)) : Type 0 where
  pub of : Pack
  pub has : HasGraph pack of size.nodes size.triples fronts

-- "Build reports both counts."
abbrev pub Gives : Text → Result Size Refusal → List (List ℕ) → Type 0
Gives pack r fronts = IsOkAnd r (λ size. GivesGraph pack size fronts)

-- Either; the lists are kept, or hold the graph.
abbrev pub Constructs : Text → Result Size Refusal → Contents → Contents → Contents → Type 0
Constructs pack r nodes triples index = Outcome (Refuses pack) (Gives pack) r (graph_lists nodes triples index)
