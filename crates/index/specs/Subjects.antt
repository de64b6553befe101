-- The triples by subject: two numbers for each node, in one list. Assumes nothing.
use Rattle.std.specs.Prelude.{drop, get_or, length, List, ◌↔◌, ◌≡◌, ℕ, ◌*◌, ◌+◌, ◌<◌, ◌≤◌}
use Rattle.index.specs.Triples.{subject_at}
use Rattle.meaning.specs.Limits.{index_width}

-- ---- "its first triple as subject and how many it has"

abbrev pub first_at : List ℕ → ℕ → ℕ
first_at index n = get_or index (n * index_width) 0

abbrev pub count_at : List ℕ → ℕ → ℕ
count_at index n = get_or index (n * index_width + 1) 0

-- The triples of the subject n are as many as `count`, from `first` on; "0 and 0 where none".
pub record SubjectRange (triples : List ℕ) (edges n first count : ℕ) : Type 0 where
  pub its : (k : ℕ) → ((k < edges) × (subject_at triples k ≡ n)) ↔ ((first ≤ k) × (k < first + count))
  pub none : count ≡ 0 → first ≡ 0

-- The list says so of each node.
pub record BySubject (triples : List ℕ) (nodes edges : ℕ) (index : List ℕ) : Type 0 where
  pub long : nodes * index_width ≤ length index
  pub ranges : (n : ℕ) → n < nodes → SubjectRange triples edges n (first_at index n) (count_at index n)

-- ---- how it is made: subject by subject, over triples whose subjects do not fall

-- Exactly the first r triples have a subject below n.
pub record SubjectsSplit (triples : List ℕ) (edges n r : ℕ) : Type 0 where
  pub inside : r ≤ edges
  pub below : (k : ℕ) → k < r → subject_at triples k < n
  pub above : (k : ℕ) → r ≤ k → k < edges → n ≤ subject_at triples k

-- The front of the list says so; what follows it is as it was.
pub record Indexed (triples : List ℕ) (nodes edges : ℕ) (index index' : List ℕ) : Type 0 where
  pub says : BySubject triples nodes edges index'
  pub kept : drop (nodes * index_width) index' ≡ drop (nodes * index_width) index
