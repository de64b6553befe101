-- Node records as code writes them, and lists of records in a lent slice. Assumes nothing.
use Rattle.std.specs.Prelude.{◌≡◌, ℕ, ◌+◌, ◌-◌, ◌*◌, ◌/◌, ◌%◌, ◌^◌, ◌<◌, ◌≤◌, Bool, cond, List, [], ◌∷◌, ◌++◌, length, take, ◌==◌, count_ones, nat_lt, slice_index, slice_index_or}
use Rattle.std.proofs.Math.ListN.{get_elem?}
use Rattle.std.proofs.Math.Option.{some}
use Rattle.meaning.specs.Limits.{first_literal, literal_weight, max_values, term_room, type_sets, unused, word_bits}
use Rattle.meaning.specs.Member.{◌∈◌}
use Rattle.meaning.specs.Ordered.{InOrder, ListOf}
use Rattle.meaning.specs.Pack.{Constructor, Pack}
use Rattle.meaning.specs.TypeSet.{TypeSet, bit}
use Rattle.worklist.specs.Table.{InWord, Marked, mark}
pub use Rattle.meaning.specs.Overwritten.{overwritten}

-- an argument, or 65,535 where the constructor has none
unfoldable pub argument_at : Bool → ℕ → ℕ
argument_at present v = cond present (v % max_values) unused

-- "A node is seven 16-bit numbers": those of a core node, by its key, its type set and the constructors' arities
unfoldable pub iri_numbers : List ℕ → ℕ → ℕ → List ℕ
unfolding argument_at
iri_numbers arities key mask =
    let arity = slice_index_or arities (key / term_room) 0 in
    0 ∷ (key / term_room) ∷ (mask % literal_weight) ∷ argument_at (nat_lt 0 arity) (key / max_values ^ 3) ∷ argument_at (nat_lt 1 arity) (key / max_values ^ 2)
    ∷ argument_at (nat_lt 2 arity) (key / max_values) ∷ argument_at (nat_lt 3 arity) key ∷ []

unfoldable pub literal_numbers : ℕ → ℕ → List ℕ
literal_numbers key mask = 1 ∷ (key - first_literal) ∷ (mask % literal_weight) ∷ unused ∷ unused ∷ unused ∷ unused ∷ []

unfoldable pub core_numbers : List ℕ → ℕ → ℕ → List ℕ
unfolding iri_numbers literal_numbers
core_numbers arities key mask = cond (nat_lt key first_literal) (iri_numbers arities key mask) (literal_numbers key mask)

-- The arities are those of the pack's constructors.
pub record Arities (P : Pack) (arities : List ℕ) : Type 0 where
  pub are : (c : ℕ) (k : Constructor) → get_elem? P.setting.constructors c ≡ some k → slice_index arities c ≡ k.arity

-- the records of the core nodes from place i on
unfoldable pub core_records : List ℕ → List ℕ → List ℕ → List (List ℕ)
unfolding core_numbers
core_records arities [] masks = []
core_records arities (k ∷ ks) [] = core_numbers arities k 0 ∷ core_records arities ks []
core_records arities (k ∷ ks) (m ∷ masks) = core_numbers arities k m ∷ core_records arities ks masks

-- ---- the invented nodes: "kind 2, kind 3 by type set"

-- An invented node by the mask of its types: 0 is the invented literal, as no set is empty.
unfoldable pub node_set : ℕ → TypeSet
node_set k = record { literal = (k == 0); mask = k }

-- its set's number
unfoldable pub slot_of : ℕ → ℕ
slot_of k = cond (k == 0) type_sets k

unfoldable pub set_numbers : ℕ → List ℕ
set_numbers k = cond (k == 0) 2 3 ∷ 0 ∷ k ∷ unused ∷ unused ∷ unused ∷ unused ∷ []

-- Bits of a word are the sets from w * 64 on that are marked.
abbrev pub NodeWord : List ℕ → ℕ → ℕ → Type 0
NodeWord flags w bits = (t : ℕ) → t < word_bits → bit t bits ≡ mark flags (slot_of (w * word_bits + t))

-- The numbers of the word w that the bits say stand, ascending, after the first `at`; there are r now.
pub record WordListed (w bits at : ℕ) (sets sets' : List ℕ) (r : ℕ) : Type 0 where
  pub new : List ℕ
  pub list : ListOf ◌<◌ (InWord w bits) new
  pub front : take r sets' ≡ take at sets ++ new
  pub count : r ≡ at + count_ones bits

-- The first r numbers are the marked sets in node order, by their masks.
pub record NodeSets (flags sets : List ℕ) (r : ℕ) : Type 0 where
  pub few : r ≤ type_sets
  pub list : ListOf ◌<◌ (λ k. Marked flags (slot_of k) × (k < type_sets)) (take r sets)

-- Masks of types, ascending.
pub record SetsFit (sets : List ℕ) : Type 0 where
  pub ascend : InOrder ◌<◌ sets
  pub below : (k : ℕ) → k ∈ sets → k < type_sets

-- The i-th set's node comes i-th after the first.
pub record SetPlaces (sets : List ℕ) (first : ℕ) (places : List ℕ) : Type 0 where
  pub are : (i : ℕ) → i < length sets → slice_index places (slice_index sets i) ≡ first + i
