-- The bounds that hold of a pack that refusals 4 and 7 let pass, and of the numbers of its heads. Assumes nothing.
use Rattle.std.specs.Prelude.{◌≡◌, ℕ, ◌+◌, ◌*◌, ◌^◌, ◌<◌, ◌≤◌, false, List, [], length, slice_index, slice_index_or}
use Rattle.meaning.specs.Limits.{max_arguments, max_constructors, max_heads, max_predicates, max_rules, max_types, max_values}
use Rattle.meaning.specs.Member.{◌∈◌}
use Rattle.meaning.specs.Pack.{Constructor, Pack}
use Rattle.meaning.specs.WellFormed.{dangling}
use Rattle.core_graph.specs.Heads.{keys_of, named_number, object_arguments, object_constructor, subject_arguments, subject_constructor}

-- "Values, at most 256", "Types, at most 8" (12 by card 14), "Predicates, at most 12", "Constructors, at most 16: arity 1 to 4", and no
-- number that names no record
pub record Bounded (P : Pack) : Type 0 where
  pub values : length P.setting.values ≤ max_values
  pub types : length P.setting.types ≤ max_types
  pub predicates : length P.setting.predicates ≤ max_predicates
  pub constructors : length P.setting.constructors ≤ max_constructors
  pub arities : (k : Constructor) → k ∈ P.setting.constructors → (1 ≤ k.arity) × (k.arity ≤ max_arguments)
  pub resolved : dangling P ≡ false

-- the same of a head's numbers
pub record HeadFits (head : List ℕ) : Type 0 where
  pub subject : subject_constructor head < max_constructors
  pub some : 1 ≤ subject_arguments head
  pub arguments : subject_arguments head ≤ max_arguments
  pub named : named_number head < max_predicates
  pub object : object_constructor head < max_constructors
  pub more : object_arguments head ≤ max_arguments

-- and of a match's: a byte for each argument
abbrev pub KeyFits : List ℕ → ℕ → Type 0
KeyFits head k = k < max_values ^ (subject_arguments head + object_arguments head)

abbrev pub KeysFit : List ℕ → List ℕ → Type 0
KeysFit head keys = (k : ℕ) → k ∈ keys → KeyFits head k

-- of all rules
pub record HeadsFit (rules : List (List ℕ)) (count : ℕ) (heads counts : List ℕ) : Type 0 where
  pub few : count ≤ max_rules
  pub room : max_rules * max_heads ≤ length heads
  pub short : (r : ℕ) → r < count → slice_index counts r ≤ max_heads
  pub fits : (r : ℕ) → r < count → HeadFits (slice_index_or rules r [])
  pub keys : (r : ℕ) → r < count → KeysFit (slice_index_or rules r []) (keys_of heads counts r)
