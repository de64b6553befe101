-- One part's steps backward into the states of a word, over the lists, as the code takes them. Assumes nothing.
use Rattle.std.specs.Prelude.{get_or, length, true, List, ◌↔◌, ◌⊎◌, ◌≡◌, ℕ, ◌%◌, ◌+◌, ◌/◌, ◌<◌, ◌≤◌}
use Rattle.index.specs.Objects.{Stands}
use Rattle.meaning.specs.Limits.{max_nodes, max_predicates}
use Rattle.meaning.specs.TypeSet.{bit}
use Rattle.query.specs.Tree.{kind_of}
use Rattle.states.specs.Parts.{AliveAt, takes}
use Rattle.states.specs.State.{state}
use Rattle.walk.specs.Parts.{Part, chain, either, leaf, part_of, repeat, test}
use Rattle.worklist.specs.Table.{InWord}

-- The numbers from lo on, before hi, are there, and their subjects are nodes.
pub record Range (into : List ℕ) (lo hi : ℕ) : Type 0 where
  pub inside : hi ≤ length into
  pub nodes : (x : ℕ) → Stands into lo hi x → x / max_predicates < max_nodes

-- Each node of a block that the bits say has such a range.
pub record Ranges (starts into : List ℕ) (block bits : ℕ) : Type 0 where
  pub long : (m : ℕ) → InWord block bits m → m + 1 < length starts
  pub range : (m : ℕ) → InWord block bits m → Range into (get_or starts m 0) (get_or starts (m + 1) 0)

-- y is the part i at the subject of a triple that the step takes; x is its subject and its predicate in one number.
pub record SubjectAt (x kind want i y : ℕ) : Type 0 where
  pub taken : takes kind want (x % max_predicates) ≡ true
  pub state : y ≡ state i (x / max_predicates)

-- y is the part i at the subject of a triple from lo on, before hi, that the step takes.
pub record SubjectOn (into : List ℕ) (lo hi kind want i y : ℕ) : Type 0 where
  pub number : ℕ
  pub stands : Stands into lo hi number
  pub subject : SubjectAt number kind want i y

-- y is the part i at the subject of a triple that ends at m, and that the step takes.
abbrev pub SubjectTo : (starts into : List ℕ) (kind want i m y : ℕ) → Type 0
SubjectTo starts into kind want i m y = SubjectOn into (get_or starts m 0) (get_or starts (m + 1) 0) kind want i y

-- y is the leaf i, of this kind, at a node from which it leads to m.
pub data LeafBack (starts into : List ℕ) (kind want i m y : ℕ) : Type 0 where
  stays : kind ≡ 0 → y ≡ state i m → LeafBack starts into kind want i m y
  steps : 1 ≤ kind → kind ≤ 2 → SubjectTo starts into kind want i m y → LeafBack starts into kind want i m y
  labels : 3 ≤ kind → kind ≤ 4 → want ≡ m → y ≡ state i m → LeafBack starts into kind want i m y

-- The part p, which has parts, is alive at a node, as B says of parts there; `after` comes after p.
abbrev pub Led : (ℕ → Type 0) → ℕ → Part → Type 0
Led B after leaf = ⊥
Led B after (test body) = B body × B after
Led B after (repeat body) = B after ⊎ B body
Led B after (chain left right) = B left
Led B after (either left right) = B left ⊎ B right

-- The bits say at which nodes of a block the part p is alive by what is marked there.
abbrev pub Turned : ℕ → List ℕ → ℕ → ℕ → Part → Type 0
Turned bits table block after p = (m : ℕ) → m < max_nodes → m / 64 ≡ block → (bit (m % 64) bits ≡ 1) ↔ Led (AliveAt table m) after p

-- y is the part i at a node from which a step of it leads to (j, m), or which its own parts at m make alive.
pub data PartBack (starts into tree next wanted table : List ℕ) (i j m y : ℕ) : Type 0 where
  leaves : get_or next i 0 ≡ j → LeafBack starts into (kind_of tree i) (get_or wanted i 0) i m y → PartBack starts into tree next wanted table i j m y
  turns : Led (AliveAt table m) (get_or next i 0) (part_of tree i) → y ≡ state i m → PartBack starts into tree next wanted table i j m y
