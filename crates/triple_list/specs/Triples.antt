-- Triple records by the numbers of their subjects: what an edge's record is, and lists of records in a lent slice. Assumes
-- nothing.
use Rattle.std.specs.Prelude.{drop, get_or, length, ◌≡◌, ℕ, ◌+◌, ◌*◌, ◌%◌, ◌≤◌, ◌<◌}
use mathlib.Core.List.{List, [], ◌∷◌, ◌++◌, map, flatten}
use Rattle.spread.specs.Keys.{object_of, origin_at, origin_of}
use Rattle.core_lists.specs.Held.{InputOf}
use Rattle.core_lists.specs.Origin.{group}
use Rattle.core_lists.specs.declared.Core.{Core}
use Rattle.invent.specs.Invent.{Lacks, Upto}
use Rattle.node_list.specs.Records.{overwritten}
use Rattle.meaning.specs.Built.{BuiltNode}
use Rattle.meaning.specs.Limits.{first_literal, max_predicates, max_triples, triple_width, type_sets}
use Rattle.meaning.specs.Listing.{NodesInOrder, TripleRecord}
use Rattle.meaning.specs.Member.{◌∈◌}
use Rattle.meaning.specs.NoGraph.{MixedKinds}
use Rattle.meaning.specs.Ordered.{ListOf, ◌≺◌}
use Rattle.meaning.specs.Pack.{Pack}
use Rattle.node_list.specs.NodeList.{InventedNodes}
use Rattle.sets.specs.Ordered.{rank_of}

-- ---- the core's

-- "A triple is three 16-bit numbers: subject, predicate, object"
abbrev pub edge_record : ℕ → ℕ → ℕ → List ℕ
edge_record s p k = s ∷ p ∷ object_of k ∷ []

abbrev pub edge_records : ℕ → ℕ → List ℕ → List (List ℕ)
edge_records s p triples = map (edge_record s p) (group (origin_at s p) triples)

-- ---- all edges

-- The record of a p-edge of node s, whose types the mask holds: of one of the core's triples, or of the edge that the node
-- gets to the invented node of its p-targets, whose number is found by its mask.
pub data EdgeFrom (P : Pack) (triples places : List ℕ) (s mask p : ℕ) (x : List ℕ) : Type 0 where
  present : (k : ℕ) → k ∈ triples → origin_of k ≡ origin_at s p → x ≡ edge_record s p k → EdgeFrom P triples places s mask p x
  gotten : (j : ℕ) → Lacks P triples s mask p j → x ≡ s ∷ p ∷ get_or places (j % type_sets) 0 ∷ [] → EdgeFrom P triples places s mask p x

-- for some predicate
abbrev pub SubjectEdge : Pack → List ℕ → List ℕ → ℕ → ℕ → List ℕ → Type 0
SubjectEdge P triples places s mask = Upto (EdgeFrom P triples places s mask) max_predicates

-- of an IRI: "literals have no outgoing edges"
abbrev pub IriEdge : List ℕ → List ℕ → List ℕ → List ℕ → Pack → List ℕ → Type 0
IriEdge nodes triples masks places P = Upto (λ s. SubjectEdge P triples places s (get_or masks s 0)) (rank_of first_literal nodes)

-- of an invented node by its mask; the invented literal, which is 0, has none
pub record NodeEdge (triples places : List ℕ) (node types : ℕ) (P : Pack) (x : List ℕ) : Type 0 where
  pub some_type : 0 < types
  pub edge : SubjectEdge P triples places node types x

-- of the i-th, whose number comes i-th after the first
abbrev pub SetEdge : List ℕ → List ℕ → List ℕ → ℕ → Pack → ℕ → List ℕ → Type 0
SetEdge triples sets places first P i = NodeEdge triples places (first + i) (get_or sets i 0) P

-- The records of Q in each of these packs, in order, stand from triple `first` on; the next number is r.
pub record RecordsListed (These : Pack → Type 0) (Q : Pack → List ℕ → Type 0) (first : ℕ) (out out' : List ℕ) (r : ℕ) : Type 0 where
  pub records : List (List ℕ)
  pub are : (P : Pack) → These P → ListOf ◌≺◌ (Q P) records
  pub long : length (flatten records) ≡ length records * triple_width
  pub count : r ≡ first + length records
  pub written : out' ≡ overwritten (first * triple_width) (flatten records) out

-- ---- the triple list

-- The first count records of the slice are those of the built edges, ascending, and what follows is as it was.
pub record TriplesListed (P : Pack) (in_order : List BuiltNode) (out out' : List ℕ) (count : ℕ) : Type 0 where
  pub records : List (List ℕ)
  pub edges : ListOf ◌≺◌ (TripleRecord P in_order) records
  pub counted : count ≡ length records
  pub few : count ≤ max_triples
  pub written : out' ≡ flatten records ++ drop (count * triple_width) out

abbrev pub TriplesShown : List (List ℕ) → Core → List ℕ → List ℕ → List ℕ → ℕ → Type 0
TriplesShown table core sets out out' count =
    (P : Pack) → InputOf P table core → InventedNodes P sets → ¬ MixedKinds P → (in_order : List BuiltNode) → NodesInOrder P in_order
    → TriplesListed P in_order out out' count
