-- The triples that end at named nodes, which come first in node order, by their subjects. Assumes nothing.
use Rattle.std.specs.Prelude.{get_or, length, List, ◌↔◌, ◌≡◌, ℕ, ◌*◌, ◌+◌, ◌<◌, ◌≤◌}
use Rattle.index.specs.Subjects.{BySubject, count_at, first_at}
use Rattle.index.specs.Triples.{object_at, subject_at}
use Rattle.meaning.specs.Limits.{index_width, max_triples}

-- What leads to one of the first `named` nodes starts at one.
abbrev pub Inward : List ℕ → ℕ → ℕ → Type 0
Inward triples edges named = (k : ℕ) → k < edges → object_at triples k < named → subject_at triples k < named

-- The triple k is of the subject n, and ends at a named node.
pub record OwnTriple (triples : List ℕ) (edges named n k : ℕ) : Type 0 where
  pub inside : k < edges
  pub subject : subject_at triples k ≡ n
  pub object : object_at triples k < named

-- ---- a part of a list: numbers of triples, each as the number and one more; a 0 ends them, or the part's end

-- The triple k is listed from lo up to hi: an entry is its number and one more, and none before it is 0.
pub record ListedIn (own : List ℕ) (lo hi k : ℕ) : Type 0 where
  pub at : ℕ
  pub above : lo ≤ at
  pub below : at < hi
  pub entry : get_or own at 0 ≡ k + 1
  pub before : (j : ℕ) → lo ≤ j → j < at → 0 < get_or own j 0

-- Of the triples from lo up to hi, those that end at a named node are listed there; the other parts are as they were.
pub record OwnWithin (triples : List ℕ) (named lo hi : ℕ) (own own' : List ℕ) : Type 0 where
  pub exactly : (k : ℕ) → ListedIn own' lo hi k ↔ ((lo ≤ k) × (k < hi) × (object_at triples k < named))
  pub kept : (j : ℕ) → (lo ≤ j → j < hi → ⊥) → get_or own' j 0 ≡ get_or own j 0

-- ---- a part for each named node, where the index has its triples

-- Where the triples of n end.
abbrev pub end_at : List ℕ → ℕ → ℕ
end_at index n = first_at index n + count_at index n

-- What is asked: the triples are there, the index says where those of each named node are, and there is an entry for each triple.
pub record OwnReady (triples : List ℕ) (edges named : ℕ) (own index : List ℕ) : Type 0 where
  pub few : edges ≤ max_triples
  pub whole : edges * 3 ≤ length triples
  pub by_subject : BySubject triples named edges index
  pub room : edges ≤ length own

-- The triples listed in the part of each named node are those that it has and that end at a named node.
pub record OwnBySubject (triples : List ℕ) (edges named : ℕ) (own index : List ℕ) : Type 0 where
  pub long : named * index_width ≤ length index
  pub room : (n : ℕ) → n < named → end_at index n ≤ length own
  pub exactly : (n k : ℕ) → n < named → ListedIn own (first_at index n) (end_at index n) k ↔ OwnTriple triples edges named n k
