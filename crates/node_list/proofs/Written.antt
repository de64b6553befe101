-- The numbers of a core node. Assumes nothing.
use Rattle.std.proofs.Common.{◌≡◌, ℕ, ◌-◌, ◌/◌, ◌%◌, ◌^◌, ◌<◌, ◌≤◌, Bool, true, false, ltb, List, [], ◌∷◌, get_or, sym, refl, le-ltb, lt-ltb}
use Rattle.node_list.specs.Records.{argument_at, core_numbers, iri_numbers, literal_numbers}
use Rattle.meaning.specs.Limits.{first_literal, literal_weight, max_values, term_room, unused}

pub argument_there : (b : Bool) (v : ℕ) → b ≡ true → v % max_values ≡ argument_at b v
unfolding argument_at
argument_there b v e = rw e refl

pub argument_not : (b : Bool) (v : ℕ) → b ≡ false → unused ≡ argument_at b v
unfolding argument_at
argument_not b v e = rw e refl

-- a core node's numbers
module _ (arities : List ℕ) (key mask : ℕ) where
  pub literal_numbers_lem : first_literal ≤ key → 1 ∷ (key - first_literal) ∷ (mask % literal_weight) ∷ unused ∷ unused ∷ unused ∷ unused ∷ [] ≡ core_numbers arities key mask
  unfolding core_numbers literal_numbers
  literal_numbers_lem h = sym (rw (le-ltb key first_literal h) refl)

  pub iri_numbers_lem : key < first_literal → (a b c d : ℕ) → let arity = get_or arities (key / term_room) 0 in
      a ≡ argument_at (ltb 0 arity) (key / max_values ^ 3) → b ≡ argument_at (ltb 1 arity) (key / max_values ^ 2)
      → c ≡ argument_at (ltb 2 arity) (key / max_values) → d ≡ argument_at (ltb 3 arity) key
      → 0 ∷ (key / term_room) ∷ (mask % literal_weight) ∷ a ∷ b ∷ c ∷ d ∷ [] ≡ core_numbers arities key mask
  unfolding core_numbers iri_numbers
  iri_numbers_lem h a b c d ea eb ec ed = rw (ea, eb, ec, ed) (sym (rw (lt-ltb key first_literal h) refl))
