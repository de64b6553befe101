-- A loop over the members of a mask, lowest first: trailing_zeros picks the next one, its bit is cleared, and those that
-- have what is looked for are still to come. Assumes nothing.
use lib.Count.{count_trailing_zeros}
use mathlib.Core.Path.{◌≡◌, ◌∙◌, subst}
use native.Mathlib.Decide.{ℕ_discrete}
use native.Mathlib.Omega.{arith}
use Prim.Native.Nat.{ℕ, ◌<◌}
use Rattle.meaning.proofs.Lists.Bits.{zero_bits}
use Rattle.meaning.proofs.Lists.Lowest.{Lowest, cleared, cleared_le, cleared_member, lowest}
use Rattle.meaning.proofs.Lists.Masks.{low_member}
use Rattle.meaning.specs.Limits.{max_types, type_sets}
use Rattle.meaning.specs.TypeSet.{bit}
use Rattle.shapes.proofs.Sets.{types_in, types_small}

-- type t is one of the mask's
abbrev pub Member : ℕ → ℕ → Type 0
Member mask t = (t < max_types) × (bit t mask ≡ 1)

-- the next member of those left
abbrev pub next : ℕ → ℕ
next left = count_trailing_zeros 16 left

module _ (Has : ℕ → Type 0) where
  pub record Searching (mask left : ℕ) : Type 0 where
    pub small : left < type_sets
    pub among : (t : ℕ) → bit t left ≡ 1 → Member mask t
    pub rest : (t : ℕ) → Member mask t → Has t → bit t left ≡ 1

  pub search_start : (mask : ℕ) → Searching mask (types_in mask)
  search_start mask = record {
    small = types_small mask;
    among = λ t. (low_member max_types t mask).0;
    rest = λ t m h. (low_member max_types t mask).1 m;
  }

module _ {Has : ℕ → Type 0} {mask left : ℕ} (v : Searching Has mask left) where
  pub search_done : left ≡ 0 → (t : ℕ) → Member mask t → ¬ Has t
  search_done e t m h = omega (arith, zero_bits t, rw e at (v.rest t m h))

  module _ (more : left ≡ 0 → ⊥) where
    low : Lowest left (next left)
    low = lowest 16 left (omega arith) (omega (arith, v.small))

    pub search_next : Member mask (next left)
    search_next = v.among (next left) low.member

    -- the next one has it no longer
    pub search_again : {Has' : ℕ → Type 0} → ((t : ℕ) → Has' t → Has t) → ¬ Has' (next left) → Searching Has' mask (cleared left)
    search_again {Has'} f n = record {
      small = omega (arith, v.small, cleared_le left);
      among = λ t e. v.among t (cleared_member t left e);
      rest = λ t m h. go t m h (ℕ_discrete t (next left));
    }
      where
        go : (t : ℕ) → Member mask t → Has' t → Dec (t ≡ next left) → bit t (cleared left) ≡ 1
        go t m h (yes e) = absurd (n (subst Has' e h))
        go t m h (no o) = low.others t o ∙ v.rest t m (f t h)
