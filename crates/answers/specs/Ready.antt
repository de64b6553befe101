-- What the two answers ask of their lists: working slices that are long enough, and zero where they are read first. Assumes
-- nothing.
use Rattle.std.specs.Prelude.{length, List, ◌≡◌, ℕ, ◌*◌, ◌<◌, ◌≤◌}
use Rattle.index.specs.Subjects.{BySubject}
use Rattle.index.specs.Triples.{PredicatesFit}
use Rattle.meaning.specs.Limits.{max_core_nodes, max_pairs, seen_words, state_words}
use Rattle.forward.specs.Own.{Inward}
use Rattle.states.specs.Fits.{ListsFit}
use Rattle.states.specs.Lists.{Lists}
use Rattle.worklist.specs.Table.{Blank, Board, mark}

pub record YesReady (L : Lists) (board : Board) : Type 0 where
  pub fits : ListsFit L
  pub predicates : PredicatesFit L.triples L.edges
  pub blank : Blank state_words board

-- Nothing is marked in the table of the states at named nodes.
pub record Unseen (seen : List ℕ) : Type 0 where
  pub long : seen_words ≤ length seen
  pub none : (x : ℕ) → x < seen_words * 64 → mark seen x ≡ 0

-- For the pairs, besides: the named nodes come first, and what leads to one starts at one; the index has each node's triples.
pub record PairsReady (L : Lists) (named : ℕ) (index seen pairs : List ℕ) : Type 0 where
  pub by_subject : BySubject L.triples L.nodes L.edges index
  pub inward : Inward L.triples L.edges named
  pub nodes : named ≤ L.nodes
  pub few : named ≤ max_core_nodes
  pub unseen : Unseen seen
  pub room : max_pairs ≤ length pairs
