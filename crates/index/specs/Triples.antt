-- The triples of a graph as numbers, and their bounds. Assumes nothing.
use Rattle.std.specs.Prelude.{get_or, length, List, ◌≡◌, ℕ, ◌*◌, ◌+◌, ◌<◌, ◌≤◌}
use Rattle.meaning.specs.Limits.{max_nodes, max_predicates, max_triples}

-- ---- "A triple is three 16-bit numbers: subject, predicate, object"

abbrev pub subject_at : List ℕ → ℕ → ℕ
subject_at triples k = get_or triples (k * 3) 0

abbrev pub predicate_at : List ℕ → ℕ → ℕ
predicate_at triples k = get_or triples (k * 3 + 1) 0

abbrev pub object_at : List ℕ → ℕ → ℕ
object_at triples k = get_or triples (k * 3 + 2) 0

-- One of the first `edges` triples.
pub record TripleIn (triples : List ℕ) (edges s p o : ℕ) : Type 0 where
  pub at : ℕ
  pub inside : at < edges
  pub subject : subject_at triples at ≡ s
  pub predicate : predicate_at triples at ≡ p
  pub object : object_at triples at ≡ o

-- ---- their bounds

-- No more nodes and triples than a graph has, and the triples join nodes.
pub record GraphFits (nodes edges : ℕ) (triples : List ℕ) : Type 0 where
  pub few_nodes : nodes ≤ max_nodes
  pub few_edges : edges ≤ max_triples
  pub whole : edges * 3 ≤ length triples
  pub subjects : (k : ℕ) → k < edges → subject_at triples k < nodes
  pub objects : (k : ℕ) → k < edges → object_at triples k < nodes

-- Their predicates are among those that a pack has.
abbrev pub PredicatesFit : List ℕ → ℕ → Type 0
PredicatesFit triples edges = (k : ℕ) → k < edges → predicate_at triples k < max_predicates

-- The subjects of the triples do not fall: a part of their ascending order.
abbrev pub SubjectsRise : List ℕ → ℕ → Type 0
SubjectsRise triples edges = (k : ℕ) → k + 1 < edges → subject_at triples k ≤ subject_at triples (k + 1)
