-- The loop that writes the records of the core nodes: those before place i are written. Assumes nothing.
use Rattle.std.proofs.Common.{◌≡◌, ℕ, ◌+◌, ◌<◌, ◌≤◌, ltb, List, [], ◌∷◌, length, get_or, drop, refl, add-one, drop_of_length-le, drop-cons}
use Rattle.node_list.specs.Records.{core_numbers, core_records, iri_numbers, literal_numbers}
use Rattle.meaning.specs.Limits.{first_literal, node_width}
use Rattle.meaning.proofs.Cases.{case_on}

pub numbers_long : (arities : List ℕ) (key mask : ℕ) → length (core_numbers arities key mask) ≡ node_width
unfolding core_numbers iri_numbers literal_numbers
numbers_long arities key mask = case_on (ltb key first_literal) (λ e. rw e refl) (λ e. rw e refl)

-- the next node
pub core_next : (arities nodes masks : List ℕ) (i : ℕ) → i < length nodes → i < length masks
    → core_records arities (drop i nodes) (drop i masks) ≡ core_numbers arities (get_or nodes i 0) (get_or masks i 0) ∷ core_records arities (drop (i + 1) nodes) (drop (i + 1) masks)
unfolding core_records
core_next arities nodes masks i h l = rw (drop-cons nodes i 0 h, drop-cons masks i 0 l, add-one i) refl

pub core_end : (arities nodes masks : List ℕ) (i : ℕ) → length nodes ≤ i → core_records arities (drop i nodes) (drop i masks) ≡ []
unfolding core_records
core_end arities nodes masks i h = rw (drop_of_length-le nodes h) refl
