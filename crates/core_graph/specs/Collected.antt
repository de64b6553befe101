-- What a pass over all heads collects: numbers into an ordered set, or types into masks. Assumes nothing.
use Rattle.std.specs.Prelude.{Result, Ok, Err, ◌≡◌, ℕ, ◌+◌, ◌-◌, ◌*◌, ◌/◌, ◌%◌, ◌^◌, ◌<◌, ◌≤◌, cond, ◌⊎◌, ◌↔◌, List, [], ◌∷◌, length, take, ◌==◌, slice_index, slice_index_or}
use Rattle.core_graph.specs.Heads.{keys_of, kind_number, named_number, object_arguments, object_constructor, subject_arguments, subject_constructor}
use Rattle.spread.specs.Keys.{triple_key}
use Rattle.sets.specs.declared.ordered.Full.{Full}
use Rattle.meaning.specs.Limits.{first_literal, max_arguments, max_values, term_room}
use Rattle.meaning.specs.Member.{◌∈◌}
use Rattle.meaning.specs.Ordered.{InOrder, ListOf}
use Rattle.meaning.specs.Pack.{Target, type}
use Rattle.meaning.specs.Tables.{set_of_mask}
use Rattle.meaning.specs.TypeSet.{◌∈ₜ◌}
use Rattle.sets.specs.Ordered.{rank_of}
use Rattle.sets.specs.OrderedSet.{OrderedSet, Same, members_of}

-- ---- what one match gives: the keys of its nodes, of its triple, and its type fact

-- a term's node: its constructor over the values, padded by zeros
abbrev pub term_key : ℕ → ℕ → ℕ → ℕ
term_key constructor arguments values = constructor * term_room + values * max_values ^ (max_arguments - arguments)

unfoldable pub subject_key : List ℕ → ℕ → ℕ
subject_key head k = term_key (subject_constructor head) (subject_arguments head) (k / max_values ^ object_arguments head)

-- a term's for kind 1, a value's for kind 2
unfoldable pub object_key : List ℕ → ℕ → ℕ
object_key head k =
    cond (kind_number head == 1) (term_key (object_constructor head) (object_arguments head) (k % max_values ^ object_arguments head))
    (first_literal + k % max_values)

-- the subject's, and the object's unless the head's kind is 0
unfoldable pub node_keys : List ℕ → ℕ → List ℕ
unfolding subject_key object_key
node_keys head k = subject_key head k ∷ cond (kind_number head == 0) [] (object_key head k ∷ [])

-- by the places of the nodes
unfoldable pub triple_keys : List ℕ → List ℕ → ℕ → List ℕ
unfolding subject_key object_key triple_key
triple_keys nodes head k =
    cond (kind_number head == 0) []
    (triple_key (rank_of (subject_key head k) nodes) (named_number head) (rank_of (object_key head k) nodes) ∷ [])

-- a type at a place
pub record HeadType (nodes head : List ℕ) (k : ℕ) (fact : ℕ × Target) : Type 0 where
  pub typing : kind_number head ≡ 0
  pub place : fact.0 ≡ rank_of (subject_key head k) nodes
  pub is : fact.1 ≡ type (named_number head)

-- ---- what all matches give

module _ {A : Type 0} where
  -- one of these matches gives y
  pub record FromKeys (X : ℕ → A → Type 0) (keys : List ℕ) (y : A) : Type 0 where
    pub key : ℕ
    pub listed : key ∈ keys
    pub gives : X key y

  -- one of the first count rules does
  pub record FromRules (X : List ℕ → ℕ → A → Type 0) (rules : List (List ℕ)) (count : ℕ) (heads counts : List ℕ) (y : A) : Type 0 where
    pub rule : ℕ
    pub below : rule < count
    pub gives : FromKeys (X (slice_index_or rules rule [])) (keys_of heads counts rule) y

-- ---- the nodes of a match, of a rule's, of all have their places

abbrev pub KnownMatch : List ℕ → List ℕ → ℕ → Type 0
KnownMatch nodes head k = (y : ℕ) → y ∈ node_keys head k → y ∈ nodes

abbrev pub KnownKeys : List ℕ → List ℕ → List ℕ → Type 0
KnownKeys nodes head keys = (k : ℕ) → k ∈ keys → KnownMatch nodes head k

abbrev pub KnownRules : List ℕ → List (List ℕ) → ℕ → List ℕ → List ℕ → Type 0
KnownRules nodes rules count heads counts = (r : ℕ) → r < count → KnownKeys nodes (slice_index_or rules r []) (keys_of heads counts r)

-- ---- numbers added to the set in the first count places of a slice

-- after is the set with the numbers of X added, in its first m places
pub record SetGrown (X : ℕ → Type 0) (n m : ℕ) (before after : List ℕ) : Type 0 where
  pub fits : m ≤ length after
  pub list : ListOf ◌<◌ (λ y. (y ∈ take n before) ⊎ X y) (take m after)

-- more than k numbers of the set Q, listed
pub record Beyond (k : ℕ) (Q : ℕ → Type 0) : Type 0 where
  pub some : List ℕ
  pub ascending : InOrder ◌<◌ some
  pub members : (y : ℕ) → y ∈ some → Q y
  pub over : k < length some

-- the set a with them is the set b, in the same slice
abbrev pub Grown : (ℕ → Type 0) → OrderedSet → OrderedSet → Type 0
Grown X a b = SetGrown X a.count b.count a.keys b.keys × Same a b

-- what is answered of the set: the numbers are added, or they are more than its slice holds
abbrev pub Adding : {A : Type 0} → Result A Full → (ℕ → Type 0) → OrderedSet → OrderedSet → Type 0
Adding (Ok _) X a b = Grown X a b
Adding (Err _) X a b = Beyond (length a.keys) (λ y. (y ∈ members_of a) ⊎ X y)

-- ---- types added to the masks of a slice

abbrev pub TypesMarked : (ℕ × Target → Type 0) → List ℕ → List ℕ → Type 0
TypesMarked X before after =
    (i : ℕ) (R : Target) → (R ∈ₜ set_of_mask (slice_index after i)) ↔ ((R ∈ₜ set_of_mask (slice_index before i)) ⊎ X (i, R))
