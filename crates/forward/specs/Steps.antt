-- Steps forward between states at named nodes, over the lists, as the code takes them. Assumes nothing.
use Rattle.std.specs.Prelude.{length, true, List, ◌⊎◌, ◌≡◌, ℕ, ◌*◌, ◌+◌, ◌<◌, ◌≤◌}
use Rattle.index.specs.Subjects.{first_at}
use Rattle.index.specs.Triples.{object_at, predicate_at}
use Rattle.meaning.specs.Limits.{index_width, max_core_nodes, max_triples}
use Rattle.forward.specs.Own.{ListedIn, end_at}
use Rattle.forward.specs.Seen.{seen_node, seen_part, seen_state}
use Rattle.states.specs.Lists.{Lists, StepIn}
use Rattle.states.specs.Parts.{AliveAt, takes}
use Rattle.walk.specs.Parts.{Part, chain, either, leaf, repeat, test}
use Rattle.worklist.specs.Table.{InWord}

-- ---- one node

-- y is `to` at the object of the triple k, which the step takes.
pub record ObjectAt (triples : List ℕ) (k kind want to y : ℕ) : Type 0 where
  pub taken : takes kind want (predicate_at triples k) ≡ true
  pub state : y ≡ seen_state to (object_at triples k)

-- y is `to` at the object of one of the triples listed from lo up to hi that the step takes.
pub record ObjectIn (triples own : List ℕ) (lo hi kind want to y : ℕ) : Type 0 where
  pub triple : ℕ
  pub listed : ListedIn own lo hi triple
  pub object : ObjectAt triples triple kind want to y

-- The triples listed from lo up to hi are there, and their objects are named.
pub record Ahead (triples own : List ℕ) (lo hi : ℕ) : Type 0 where
  pub ordered : lo ≤ hi
  pub room : hi ≤ length own
  pub few : (k : ℕ) → ListedIn own lo hi k → k < max_triples
  pub whole : (k : ℕ) → ListedIn own lo hi k → k * 3 + 3 ≤ length triples
  pub nodes : (k : ℕ) → ListedIn own lo hi k → object_at triples k < max_core_nodes

-- The leaf leads from n to y, a named node at `to`; the triples of n are listed where the index has them.
pub data LeafOnward (triples own index : List ℕ) (kind want to n y : ℕ) : Type 0 where
  stays : kind ≡ 0 → y ≡ seen_state to n → LeafOnward triples own index kind want to n y
  steps : 1 ≤ kind → kind ≤ 2 → ObjectIn triples own (first_at index n) (end_at index n) kind want to y → LeafOnward triples own index kind want to n y
  labels : 3 ≤ kind → kind ≤ 4 → want ≡ n → y ≡ seen_state to n → LeafOnward triples own index kind want to n y

-- The part p, which has parts, leads from the node n to y; nested tests go by the table of states that are alive.
abbrev pub PartsOnward : List ℕ → ℕ → Part → ℕ → ℕ → Type 0
PartsOnward table after leaf n y = ⊥
PartsOnward table after (test body) n y = AliveAt table n body × (y ≡ seen_state after n)
PartsOnward table after (repeat body) n y = (y ≡ seen_state after n) ⊎ (y ≡ seen_state body n)
PartsOnward table after (chain left right) n y = y ≡ seen_state left n
PartsOnward table after (either left right) n y = (y ≡ seen_state left n) ⊎ (y ≡ seen_state right n)

-- ---- the nodes of a block

-- The index has each of these nodes, and their listed triples are there.
abbrev pub AllAhead : List ℕ → List ℕ → List ℕ → ℕ → ℕ → Type 0
AllAhead triples own index block bits = (n : ℕ) → InWord block bits n → (n * index_width + 1 < length index) × Ahead triples own (first_at index n) (end_at index n)

-- ---- states

-- y is the state at a named node that a step leads to from the state s.
pub record StepFrom (L : Lists) (named s y : ℕ) : Type 0 where
  pub part : ℕ
  pub node : ℕ
  pub is_named : node < named
  pub step : StepIn L (seen_part s) (seen_node s) part node
  pub state : y ≡ seen_state part node

-- The state s is of one of the parts, or the end, and of a named node.
pub record StateIn (L : Lists) (named s : ℕ) : Type 0 where
  pub part : seen_part s ≤ L.parts
  pub node : seen_node s < named
