-- The lists that a build leaves: node records, triples by node number, their order (document 01, "The graph", third
-- paragraph), and the index of subjects (card 13). Assumes nothing.
use Rattle.std.specs.Prelude.{take, replicate, length, Bool, true, false, ◌↔◌, ◌≡◌, ℕ, ◌+◌, ◌<◌, ◌≤◌}
use Rattle.std.proofs.Math.ListN.{get_elem?}
use mathlib.Core.List.{List, [], ◌∷◌, ◌++◌, Forall₂}
use Rattle.std.proofs.Math.Option.{some}
use Rattle.meaning.specs.Built.{BuiltNode, core, invented, HasType, IsBuilt, BuiltEdge}
use Rattle.meaning.specs.Core.{iri_node, literal_node}
use Rattle.meaning.specs.Limits.{max_arguments, unused}
use Rattle.meaning.specs.Ordered.{ListOf, ◌≺◌}
use Rattle.meaning.specs.Pack.{Pack, type}
use Rattle.meaning.specs.TypeSet.{bit}

-- ---- "A node is seven 16-bit numbers"

-- "kind (0 IRI, 1 literal, 2 invented literal, 3 invented other)". (A set with Literal and a type is refusal 11.)
abbrev pub invented_kind : Bool → ℕ
invented_kind true = 2
invented_kind false = 3

unfoldable pub kind : BuiltNode → ℕ
kind (core (iri_node c vs)) = 0
kind (core (literal_node v)) = 1
kind (invented X) = invented_kind X.literal

-- "constructor for kind 0, value for kind 1, else 0"
unfoldable pub number : BuiltNode → ℕ
number (core (iri_node c vs)) = c
number (core (literal_node v)) = v
number (invented X) = 0

abbrev pub padded : List ℕ → List ℕ
padded vs = take max_arguments (vs ++ replicate max_arguments unused)

-- "four arguments, 65,535 where unused"
unfoldable pub arguments : BuiltNode → List ℕ
arguments (core (iri_node c vs)) = padded vs
arguments (core (literal_node v)) = padded []
arguments (invented X) = padded []

-- "type set, with weight 2 to the power t for type t". Literal has no weight.
abbrev pub TypeWeights : Pack → BuiltNode → ℕ → Type 0
TypeWeights P b m = (t : ℕ) → (bit t m ≡ 1) ↔ HasType P b (type t)

pub record NodeRecord (P : Pack) (b : BuiltNode) (numbers : List ℕ) : Type 0 where
  pub types : ℕ
  pub weigh : TypeWeights P b types
  pub are : numbers ≡ kind b ∷ number b ∷ types ∷ arguments b

-- ---- "Node order: kind 0 by constructor and arguments, kind 1 by value (only values in triples), kind 2, kind 3 by type set."
-- A literal is in the core only as the object of a triple.

unfoldable pub node_key : BuiltNode → List ℕ
node_key (core (iri_node c vs)) = 0 ∷ c ∷ vs
node_key (core (literal_node v)) = 1 ∷ v ∷ []
node_key (invented X) = invented_kind X.literal ∷ X.mask ∷ []

infix 50 ◌◃◌
abbrev pub ◌◃◌ : BuiltNode → BuiltNode → Type 0
b ◃ c = node_key b ≺ node_key c

-- All built nodes, each once, in node order. A node's number is its place.
abbrev pub NodesInOrder : Pack → List BuiltNode → Type 0
NodesInOrder P nodes = ListOf ◌◃◌ (IsBuilt P) nodes

-- ---- "A triple is three 16-bit numbers: subject, predicate, object, ascending in that order."

pub record TripleRecord (P : Pack) (nodes : List BuiltNode) (numbers : List ℕ) : Type 0 where
  pub subject : ℕ
  pub predicate : ℕ
  pub object : ℕ
  pub from : BuiltNode
  pub to : BuiltNode
  pub from_at : get_elem? nodes subject ≡ some from
  pub to_at : get_elem? nodes object ≡ some to
  pub edge : BuiltEdge P from predicate to
  pub are : numbers ≡ subject ∷ predicate ∷ object ∷ []

-- The pack's graph as lists of records. The counts are their lengths.
pub record GraphLists (P : Pack) (nodes triples : List (List ℕ)) : Type 0 where
  pub in_order : List BuiltNode
  pub ordered : NodesInOrder P in_order
  pub records : Forall₂ (NodeRecord P) in_order nodes
  pub edges : ListOf ◌≺◌ (TripleRecord P in_order) triples

-- ---- Card 13: "two 16-bit numbers for each node: its first triple as subject and how many it has, 0 and 0 where none"

-- The triple at place k has this node as subject.
abbrev pub SubjectIs : List (List ℕ) → ℕ → ℕ → Type 0
SubjectIs triples k node = (rest : List ℕ) × (get_elem? triples k ≡ some (node ∷ rest))

-- Triples ascend, so that those of a node stand one after another: as many as `count`, from place `first` on.
pub record IndexEntry (triples : List (List ℕ)) (node : ℕ) (numbers : List ℕ) : Type 0 where
  pub first : ℕ
  pub count : ℕ
  pub its : (k : ℕ) → SubjectIs triples k node ↔ ((first ≤ k) × (k < first + count))
  pub none : count ≡ 0 → first ≡ 0
  pub are : numbers ≡ first ∷ count ∷ []

-- An entry for each of so many nodes, by their numbers.
pub record SubjectIndex (triples : List (List ℕ)) (nodes : ℕ) (entries : List (List ℕ)) : Type 0 where
  pub each : length entries ≡ nodes
  pub entry : (node : ℕ) (numbers : List ℕ) → get_elem? entries node ≡ some numbers → IndexEntry triples node numbers
