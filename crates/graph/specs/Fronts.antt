-- A pack's graph as numbers: what stands at the front of the node list, of the triple list and of their index. Assumes nothing.
use Rattle.std.specs.Prelude.{length, take, ◌≡◌, ℕ, ◌*◌, ◌≤◌}
use mathlib.Core.List.{List, [], ◌∷◌, flatten}
use Rattle.calls.specs.Call.{Contents, Lent, ◌at_least◌}
use Rattle.meaning.specs.Limits.{index_length, index_width, max_nodes, max_triples, node_list_length, node_width, triple_list_length, triple_width}
use Rattle.meaning.specs.Listing.{GraphLists, SubjectIndex}
use Rattle.meaning.specs.Pack.{Pack}

-- the lists of a graph, as a call is lent them: card 13's is "9,728" numbers since card 14
abbrev pub graph_lists : Contents → Contents → Contents → List Lent
graph_lists nodes triples index = nodes at_least node_list_length ∷ triples at_least triple_list_length ∷ index at_least index_length ∷ []

-- the first n nodes and the first t triples of two lists, and the first n entries of an index
abbrev pub fronts_of : ℕ → List ℕ → ℕ → List ℕ → List ℕ → List (List ℕ)
fronts_of n nodes t triples index = take (n * node_width) nodes ∷ take (t * triple_width) triples ∷ take (n * index_width) index ∷ []

-- These are the n nodes and the t triples of the pack's graph, record after record, in the defined order.
pub record GraphListed (P : Pack) (n t : ℕ) (nodes triples : List ℕ) : Type 0 where
  pub node_records_are : List (List ℕ)
  pub triple_records_are : List (List ℕ)
  pub lists : GraphLists P node_records_are triple_records_are
  pub node_count : n ≡ length node_records_are
  pub triple_count : t ≡ length triple_records_are
  pub few_nodes : n ≤ max_nodes
  pub few_triples : t ≤ max_triples
  pub nodes_are : nodes ≡ flatten node_records_are
  pub triples_are : triples ≡ flatten triple_records_are

-- And this is their index, "true of the triples whenever a call leaves a built graph" (card 13).
pub record GraphFronts (P : Pack) (n t : ℕ) (fronts : List (List ℕ)) : Type 0 where
  pub nodes : List ℕ
  pub triples : List ℕ
  pub listed : GraphListed P n t nodes triples
  pub entries : List (List ℕ)
  pub indexed : SubjectIndex listed.triple_records_are n entries
  pub fronts_are : fronts ≡ nodes ∷ triples ∷ flatten entries ∷ []
