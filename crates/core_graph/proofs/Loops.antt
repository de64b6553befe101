-- The loops that add what each match gives to an ordered set: over one rule's matches, and over the rules. How they start,
-- go on, break off and end. Assumes nothing.
use Rattle.std.specs.Prelude.{◌≡◌, ℕ, ◌+◌, ◌<◌, ◌≤◌, ◌⊎◌, List, [], length, get_or, take}
use lib.Seq.{take_all}
use mathlib.Core.Logic.{inl, inr}
use mathlib.Core.Path.{subst}
use native.Mathlib.Omega.{arith}
use Prim.Native.Nat.{zero-le}
use Rattle.core_graph.proofs.Growing.{grows_then, beyond_as, full_then, grown_start, keys_more, keys_none, keys_part, rules_more, rules_none, rules_part}
use Rattle.core_graph.specs.Collected.{Grown, Beyond, FromKeys, FromRules}
use Rattle.core_graph.specs.Heads.{keys_of}
use Rattle.meaning.specs.Member.{◌∈◌}
use Rattle.meaning.specs.Ordered.{InOrder}
use Rattle.sets.proofs.Slices.{same_start}
use Rattle.sets.specs.OrderedSet.{OrderedSet, members_of}

-- ---- what the first i matches give is added

pub record KeysDone (X : ℕ → ℕ → Type 0) (keys : List ℕ) (i : ℕ) (a b : OrderedSet) : Type 0 where
  pub within : i ≤ length keys
  pub grown : Grown (FromKeys X (take i keys)) a b

pub keys_start : (X : ℕ → ℕ → Type 0) (keys : List ℕ) (a : OrderedSet) → a.count ≤ length a.keys → InOrder ◌<◌ (members_of a) → KeysDone X keys 0 a a
keys_start X keys a l o = record { within = zero-le; grown = (grown_start a.count a.keys l o (keys_none keys), same_start) }

module _ {X : ℕ → ℕ → Type 0} {keys : List ℕ} {i : ℕ} {a b : OrderedSet} (k : KeysDone X keys i a b) where
  pub keys_again : i < length keys → (c : OrderedSet) → Grown (X (get_or keys i 0)) b c → KeysDone X keys (i + 1) a c
  keys_again h c g = record { within = omega arith; grown = grows_then (keys_more X keys i h) k.grown g }

  pub keys_full : i < length keys → Beyond (length b.keys) (λ y. (y ∈ members_of b) ⊎ X (get_or keys i 0) y)
      → Beyond (length a.keys) (λ y. (y ∈ members_of a) ⊎ FromKeys X keys y)
  keys_full h w = beyond_as all (full_then (keys_more X keys i h) k.grown w)
    where
      all : (y : ℕ) → (y ∈ members_of a) ⊎ FromKeys X (take (i + 1) keys) y → (y ∈ members_of a) ⊎ FromKeys X keys y
      all y (inl q) = inl q
      all y (inr f) = inr (keys_part (i + 1) f)

  pub keys_done : length keys ≤ i → Grown (FromKeys X keys) a b
  keys_done h = subst (λ (xs : List ℕ). Grown (FromKeys X xs) a b) (take_all i keys h) k.grown

-- ---- what the first i rules give is added

pub record RulesDone (X : List ℕ → ℕ → ℕ → Type 0) (rules : List (List ℕ)) (heads counts : List ℕ) (i : ℕ) (a b : OrderedSet) : Type 0 where
  pub grown : Grown (FromRules X rules i heads counts) a b

pub rules_start : (X : List ℕ → ℕ → ℕ → Type 0) (rules : List (List ℕ)) (heads counts : List ℕ) (a : OrderedSet) → a.count ≤ length a.keys → InOrder ◌<◌ (members_of a)
    → RulesDone X rules heads counts 0 a a
rules_start X rules heads counts a l o = record { grown = (grown_start a.count a.keys l o rules_none, same_start) }

module _ {X : List ℕ → ℕ → ℕ → Type 0} {rules : List (List ℕ)} {heads counts : List ℕ} {i : ℕ} {a b : OrderedSet} (k : RulesDone X rules heads counts i a b) where
  pub rules_again : (c : OrderedSet) → Grown (FromKeys (X (get_or rules i [])) (keys_of heads counts i)) b c → RulesDone X rules heads counts (i + 1) a c
  rules_again c g = record { grown = grows_then (rules_more i) k.grown g }

  pub rules_full : {count : ℕ} → i < count → Beyond (length b.keys) (λ y. (y ∈ members_of b) ⊎ FromKeys (X (get_or rules i [])) (keys_of heads counts i) y)
      → Beyond (length a.keys) (λ y. (y ∈ members_of a) ⊎ FromRules X rules count heads counts y)
  rules_full {count} h w = beyond_as all (full_then (rules_more i) k.grown w)
    where
      all : (y : ℕ) → (y ∈ members_of a) ⊎ FromRules X rules (i + 1) heads counts y → (y ∈ members_of a) ⊎ FromRules X rules count heads counts y
      all y (inl q) = inl q
      all y (inr f) = inr (rules_part (omega arith) f)

  pub rules_done : {count : ℕ} → i ≡ count → Grown (FromRules X rules count heads counts) a b
  rules_done e = subst (λ c. Grown (FromRules X rules c heads counts) a b) e k.grown
