-- Which parts a part can make alive, and lists of them. Assumes nothing.
use Rattle.std.specs.Prelude.{get_or, length, List, ◌≡◌, ℕ, ◌%◌, ◌*◌, ◌+◌, ◌-◌, ◌/◌, ◌<◌, ◌≤◌}
use Rattle.alive.specs.Steps.{Touches}
use Rattle.index.specs.Objects.{Stands}
use Rattle.index.specs.Triples.{object_at, predicate_at, subject_at}
use Rattle.meaning.specs.Limits.{max_parts, max_predicates}
use Rattle.query.specs.Tree.{first_number, kind_of}
use Rattle.states.specs.Lists.{Lists}
use Rattle.states.specs.Parts.{PartReady}
use Rattle.walk.specs.Parts.{part_of}

abbrev pub max_links : ℕ  -- three for each part
max_links = max_parts * 3

abbrev pub max_causes : ℕ  -- the parts, the end, and one that stands for no part
max_causes = max_parts + 2

-- The link e stands for the part e / 3, and leads from c: from what comes after it, the part before it, or its first part, if
-- that can make it alive.
pub record Link (tree next : List ℕ) (e c : ℕ) : Type 0 where
  pub small : c < max_causes
  pub after : e % 3 ≡ 0 → kind_of tree (e / 3) < 7 → c ≡ get_or next (e / 3) 0
  pub body : e % 3 ≡ 1 → 5 ≤ kind_of tree (e / 3) → (kind_of tree (e / 3) ≡ 7 → ⊥) → c ≡ e / 3 - 1
  pub first : e % 3 ≡ 2 → 7 ≤ kind_of tree (e / 3) → c ≡ first_number tree (e / 3)

-- The parts are there.
pub record LinkReady (tree next : List ℕ) (parts : ℕ) : Type 0 where
  pub few : parts ≤ max_parts
  pub ready : (i : ℕ) → i < parts → PartReady tree next i

-- The first n links, each a triple: its part, 0, and what it leads from.
pub record LinksListed (tree next : List ℕ) (n : ℕ) (links : List ℕ) : Type 0 where
  pub whole : n * 3 ≤ length links
  pub subjects : (e : ℕ) → e < n → subject_at links e ≡ e / 3
  pub predicates : (e : ℕ) → e < n → predicate_at links e ≡ 0
  pub objects : (e : ℕ) → e < n → Link tree next e (object_at links e)

-- The parts that the part j can make alive stand in the list from heads[j] on, before heads[j + 1], each as a subject with the
-- predicate 0.
pub record Caused (L : Lists) (heads links : List ℕ) : Type 0 where
  pub long : max_causes < length heads
  pub inside : (j : ℕ) → j < max_causes → get_or heads (j + 1) 0 ≤ length links
  pub parts : (j x : ℕ) → j < max_causes → Stands links (get_or heads j 0) (get_or heads (j + 1) 0) x → x / max_predicates < L.parts
  pub causes : (i j : ℕ) → i < L.parts → j < max_causes → Touches (get_or L.next i 0) (part_of L.tree i) j
      → Stands links (get_or heads j 0) (get_or heads (j + 1) 0) (i * max_predicates)
