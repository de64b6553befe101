-- The search of the node list for a record of given numbers. Assumes nothing.
use lib.ListN.{length, take, drop, get_or, length-take, length-drop}
use lib.Pointwise.{bytes_decides, pointwise}
use lib.Seq.{ext_get_or, get_or-drop, get_or-take}
use lib.Dec.{eqb}
use mathlib.Core.Bool.{Bool, true, false, false≢true}
use mathlib.Core.List.{List}
use mathlib.Core.Logic.{◌↔◌}
use mathlib.Core.Path.{◌≡◌, sym, ap, subst, ◌∙◌}
use native.Mathlib.Nat.{zero-add}
use native.Mathlib.Omega.{arith}
use Prim.Native.Nat.{ℕ, ◌+◌, ◌-◌, ◌*◌, ◌≤◌, ◌<◌}
use Rattle.std.specs.Prelude.{Option, Some, None, MatchOption, IsSomeAnd, HoldsAt}
use Rattle.std.specs.List.{AllWithin, range_with_len}
use Rattle.std.proofs.lemmas.List.FromFn.{get_or-range_with_len, length-range_with_len}
use Rattle.meaning.specs.Limits.{max_arguments, node_width}
use Rattle.resolve.specs.Search.{HasNumbers, First, found, nowhere}

-- ---- a record

-- the numbers of the arguments of node m
module _ (nodes : List ℕ) (m : ℕ) where
  abbrev many : ℕ
  many = m * node_width + node_width - (m * node_width + 3)

  abbrev last : List ℕ
  last = take many (drop (m * node_width + 3) nodes)

  at_place : (j : ℕ) → j < max_arguments → get_or last j 0 ≡ get_or nodes (m * node_width + 3 + j) 0
  at_place j h = get_or-take many (drop (m * node_width + 3) nodes) j 0 (omega arith) ∙ get_or-drop (m * node_width + 3) nodes j 0

  as_many : m * node_width + node_width ≤ length nodes → length last ≡ max_arguments
  as_many room = omega (arith, length-take many (drop (m * node_width + 3) nodes), length-drop (m * node_width + 3) nodes, room)

module _ {nodes arguments : List ℕ} {kind number m : ℕ} where
  pub other_kind : (get_or nodes (m * node_width) 0 ≡ kind → ⊥) → (false ≡ true) ↔ HasNumbers nodes kind number arguments m
  other_kind n = (λ t. absurd (false≢true t), λ h. absurd (n h.kind_is))

  pub other_number : (get_or nodes (m * node_width + 1) 0 ≡ number → ⊥) → (false ≡ true) ↔ HasNumbers nodes kind number arguments m
  other_number n = (λ t. absurd (false≢true t), λ h. absurd (n h.number_is))

  pub by_arguments : m * node_width + node_width ≤ length nodes → length arguments ≡ max_arguments
      → get_or nodes (m * node_width) 0 ≡ kind → get_or nodes (m * node_width + 1) 0 ≡ number → {b : Bool}
      → b ≡ pointwise eqb (take (m * node_width + node_width - (m * node_width + 3)) (drop (m * node_width + 3) nodes)) arguments
      → (b ≡ true) ↔ HasNumbers nodes kind number arguments m
  by_arguments room four k n e = (
    (λ t.
        let same = (bytes_decides (last nodes m) arguments).0 (sym e ∙ t) in
        record { kind_is = k; number_is = n; arguments_are = λ j l. sym (at_place nodes m j l) ∙ ap (λ (xs : List ℕ). get_or xs j 0) same }),
    (λ h. e ∙ (bytes_decides (last nodes m) arguments).1
        (ext_get_or 0 (last nodes m) arguments (as_many nodes m room ∙ sym four) (λ j l.
        let i : j < max_arguments = omega (arith, l, as_many nodes m room) in
        at_place nodes m j i ∙ h.arguments_are j i))),
  )

-- ---- the first of them

-- `position` over the numbers below count
entry : (count i d : ℕ) → i < count → get_or (range_with_len 0 count) i d ≡ i
entry count i d h = get_or-range_with_len 0 count i d h ∙ zero-add i

-- what the test says of the numbers below count
abbrev pub Yes : (ℕ → Type 0) → ℕ → ℕ → Type 0
Yes Q count m = m < count → Q m

abbrev pub No : (ℕ → Type 0) → ℕ → ℕ → Type 0
No Q count m = m < count → Q m → ⊥

pub first_of : (Q : ℕ → Type 0) (count : ℕ) (r : Option ℕ)
    → MatchOption r (AllWithin (No Q count) (range_with_len 0 count) 0 (length (range_with_len 0 count)))
    (λ i. (i < length (range_with_len 0 count)) × HoldsAt (Yes Q count) (range_with_len 0 count) i × AllWithin (No Q count) (range_with_len 0 count) 0 i) → First Q count r
first_of Q count None h = nowhere (λ m l q. subst (No Q count) (entry count m 0 l) (h m 0 (omega arith) (omega (arith, l, length-range_with_len 0 count))) l q)
first_of Q count (Some i) h =
    let l : i < count = omega (arith, h.0, length-range_with_len 0 count) in
    found l (subst (Yes Q count) (entry count i 0 l) (h.1 0) l)
    (λ m k q. let n : m < count = omega (arith, k, l) in subst (No Q count) (entry count m 0 n) (h.2 m 0 (omega arith) k) n q)

-- what a test says where it fails
pub fails : {b : Bool} {Q : Type 0} → (b ≡ true) ↔ Q → b ≡ false → Q → ⊥
fails is n q = false≢true (sym n ∙ is.1 q)

-- what `map` leaves as it is
pub map_same : {Post : ℕ → ℕ → Type 0} (r r' : Option ℕ) → MatchOption r (r' ≡ None) (λ x. IsSomeAnd r' (Post x)) → ((x y : ℕ) → Post x y → y ≡ x) → r' ≡ r
map_same None r' h same = h
map_same (Some x) None h same = absurd h
map_same (Some x) (Some y) h same = ap (λ (z : ℕ). Some z) (same x y h)
