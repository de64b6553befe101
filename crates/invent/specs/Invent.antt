-- Type sets as numbers, and marking in a table those that arise. Assumes nothing.
use Rattle.std.specs.Prelude.{leb, get_or, length, List, ◌↔◌, ℕ, ◌+◌, ◌*◌, ◌/◌, ◌%◌, ◌<◌}
use Rattle.spread.specs.Keys.{origin_at}
use Rattle.core_lists.specs.Held.{InputOf}
use Rattle.core_lists.specs.Origin.{HasOrigin}
use Rattle.core_lists.specs.declared.Core.{Core}
use Rattle.meaning.specs.Built.{BuiltNode, IsBuilt, PTargets, Requires, invented}
use Rattle.meaning.specs.Limits.{literal_weight, max_predicates, member_sets, set_words, type_sets}
use Rattle.meaning.specs.Pack.{Pack}
use Rattle.meaning.specs.Tables.{set_of_mask}
use Rattle.meaning.specs.TypeSet.{TypeSet}
use Rattle.shapes.specs.Demands.{Demand, Demanded}
use Rattle.worklist.specs.Table.{Adds, AddsOnly, Board, Looked, Marked}

-- Set number j: its types by their weights, and as many more as there are sets of types where Literal is a member.
unfoldable pub set_at : ℕ → TypeSet
set_at j = record { literal = leb type_sets j; mask = j % type_sets }

-- the number of a mask's set, and the mask of a set's number
abbrev pub number_of : ℕ → ℕ
number_of mask = mask % type_sets + mask / literal_weight * type_sets

abbrev pub mask_of : ℕ → ℕ
mask_of j = j % type_sets + j / type_sets * literal_weight

-- The types of b require p, and set j is its p-targets: what an edge that b gets leads to.
pub record Leads (P : Pack) (b : BuiltNode) (p j : ℕ) : Type 0 where
  pub small : j < member_sets
  pub needs : Requires P b p
  pub targets : PTargets P b p (set_at j)

-- Q at some number below n
pub record Upto {A : Type 0} (Q : ℕ → A → Type 0) (n : ℕ) (x : A) : Type 0 where
  pub at : ℕ
  pub below : at < n
  pub holds : Q at x

-- The packs of a table of demands, and those in which the set of a mask demands this of p.
abbrev pub OfTable : List (List ℕ) → Pack → Type 0
OfTable demands P = Demanded P.setting demands

abbrev pub OfDemand : ℕ → ℕ → ℕ → Pack → Type 0
OfDemand mask p demand P = Demand P.setting mask p demand

-- More sets were marked, and wait; for each of these packs, those that Q says and no others.
pub record Marks (These : Pack → Type 0) (Q : Pack → ℕ → Type 0) (a b : Board) : Type 0 where
  pub grows : Adds set_words (λ j. Unit) (λ j. ⊥) a b
  pub adds : (P : Pack) → These P → AddsOnly set_words (Q P) a b

-- ---- what follows from the sets that are marked

-- "An invented node gets one edge for each predicate it requires."
abbrev pub Next : ℕ → Pack → ℕ → Type 0
Next mask P = Upto (Leads P (invented (set_of_mask mask))) max_predicates

pub data Follows (P : Pack) (flags : List ℕ) : ℕ → Type 0 where
  marked : {j : ℕ} → Marked flags j → Follows P flags j
  follows : {i j p : ℕ} → Follows P flags i → i < member_sets → p < max_predicates → Leads P (invented (set_at i)) p j → Follows P flags j

-- No marked set has been looked at: all wait.
abbrev pub AllWait : Board → Type 0
AllWait b = (j : ℕ) → j < member_sets → ¬ Looked b j

abbrev pub CloseShown : List (List ℕ) → List ℕ → List ℕ → Type 0
CloseShown demands before after = (P : Pack) → OfTable demands P → (j : ℕ) → Marked after j ↔ Follows P before j

-- ---- what the core's nodes get

-- "A core node whose types require p and that has no p-edge gets one to the invented node of its p-targets."
pub record Lacks (P : Pack) (triples : List ℕ) (s mask p j : ℕ) : Type 0 where
  pub none : ¬ HasOrigin triples (origin_at s p)
  pub leads : Leads P (invented (set_of_mask mask)) p j

-- for some predicate, and for some node
abbrev pub NodeLacks : List ℕ → ℕ → ℕ → Pack → ℕ → Type 0
NodeLacks triples s mask P = Upto (Lacks P triples s mask) max_predicates

abbrev pub CoreLacks : List ℕ → List ℕ → List ℕ → Pack → ℕ → Type 0
CoreLacks nodes triples masks P = Upto (λ s. NodeLacks triples s (get_or masks s 0) P) (length nodes)

-- A set is marked exactly if its invented node is built.
pub record InventedSets (P : Pack) (flags : List ℕ) : Type 0 where
  pub sets : (j : ℕ) → Marked flags j ↔ ((j < member_sets) × IsBuilt P (invented (set_at j)))

abbrev pub InventShown : List (List ℕ) → Core → List ℕ → Type 0
InventShown table core after = (P : Pack) → InputOf P table core → InventedSets P after
