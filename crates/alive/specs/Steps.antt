-- The states that are alive, and what makes a state of a part alive, over the lists. Assumes nothing.
use Rattle.std.specs.Prelude.{get_or, List, ◌↔◌, ◌⊎◌, ◌≡◌, ℕ, ◌%◌, ◌*◌, ◌/◌, ◌<◌, ◌≤◌}
use Rattle.backward.specs.Steps.{Led}
use Rattle.meaning.specs.Limits.{state_words}
use Rattle.meaning.specs.Query.{Joins}
use Rattle.meaning.specs.TypeSet.{bit}
use Rattle.states.specs.Lists.{AliveIn, Lists, leaf_at, numbered}
use Rattle.states.specs.Parts.{AliveAt}
use Rattle.states.specs.State.{node_at, part_at, state}
use Rattle.walk.specs.Parts.{Part, chain, either, leaf, part_of, repeat, test}
use Rattle.worklist.specs.Table.{InWord, Marked}

-- The bits say which nodes of a block are among the first nodes.
abbrev pub RealNodes : ℕ → ℕ → ℕ → Type 0
RealNodes nodes block bits = (m : ℕ) → m / 64 ≡ block → (bit (m % 64) bits ≡ 1) ↔ (m < nodes)

-- y is the end at a node.
pub record EndAt (nodes parts y : ℕ) : Type 0 where
  pub node : ℕ
  pub is : node < nodes
  pub state : y ≡ state parts node

-- The number x is a state that is alive.
pub record StateAlive (L : Lists) (x : ℕ) : Type 0 where
  pub part : part_at x ≤ L.parts
  pub node : node_at x < L.nodes
  pub alive : AliveIn L (part_at x) (node_at x)

-- Every marked state is alive.
abbrev pub AllAlive : Lists → List ℕ → Type 0
AllAlive L table = (x : ℕ) → x < state_words * 64 → Marked table x → StateAlive L x

-- The states of a word that the bits say are marked.
abbrev pub AllMarked : List ℕ → ℕ → ℕ → Type 0
AllMarked table w bits = (x : ℕ) → InWord w bits x → Marked table x

-- The part p, after which `after` comes, can turn alive when the part j does.
abbrev pub Touches : ℕ → Part → ℕ → Type 0
Touches after leaf j = j ≡ after
Touches after (test body) j = (j ≡ body) ⊎ (j ≡ after)
Touches after (repeat body) j = (j ≡ after) ⊎ (j ≡ body)
Touches after (chain left right) j = j ≡ left
Touches after (either left right) j = (j ≡ left) ⊎ (j ≡ right)

-- y is a state of the part i that is alive if the state s and what is marked are: the part is a leaf that leads to s, or
-- it has parts, s is of one of these or of what comes after, and they make it alive at the node of s.
pub data BackAt (L : Lists) (table : List ℕ) (s i y : ℕ) : Type 0 where
  leads : (n : ℕ) → part_of L.tree i ≡ leaf → get_or L.next i 0 ≡ part_at s → Joins (numbered L) (leaf_at L i) n (node_at s) → y ≡ state i n → BackAt L table s i y
  turns : Led (AliveAt table (node_at s)) (get_or L.next i 0) (part_of L.tree i) → Touches (get_or L.next i 0) (part_of L.tree i) (part_at s)
      → y ≡ state i (node_at s) → BackAt L table s i y

pub record BackTo (L : Lists) (table : List ℕ) (s y : ℕ) : Type 0 where
  pub part : ℕ
  pub is : part < L.parts
  pub back : BackAt L table s part y
