-- What a walk from a start reaches, and the pairs that are listed by it, over lists. Assumes nothing.
use Rattle.std.specs.Prelude.{eqb, length, take, Bool, cond, List, [], ◌++◌, ◌∷◌, Err, Ok, Result, ◌↔◌, ◌≡◌, suc, zero, ℕ, ◌*◌, ◌+◌, ◌<◌, ◌≤◌}
use Rattle.meaning.specs.Limits.{max_core_nodes, max_pairs, seen_words}
use Rattle.meaning.specs.Ordered.{ListOf, Over}
use Rattle.reached.specs.declared.pairs.TooMany.{TooMany}
use Rattle.reached.specs.Keys.{pair_key}
use Rattle.forward.specs.Seen.{seen_state}
use Rattle.states.specs.Lists.{Lists, ReachedIn}
use Rattle.worklist.specs.Table.{Marked, mark}

-- The marked states are those that are reached from the root at v, at named nodes; they are of the parts and the end.
pub record Walked (L : Lists) (named v : ℕ) (seen : List ℕ) : Type 0 where
  pub reached : (i n : ℕ) → i ≤ L.parts → n < named → Marked seen (seen_state i n) ↔ ReachedIn L v i n
  pub within : (x : ℕ) → x < seen_words * 64 → Marked seen x → x < (L.parts + 1) * max_core_nodes

-- x is the number of a pair of two of the first `named` nodes, where the end is reached from the root at the start.
pub record PairIn (L : Lists) (named x : ℕ) : Type 0 where
  pub from : ℕ
  pub to : ℕ
  pub from_named : from < named
  pub to_named : to < named
  pub reached : ReachedIn L from L.parts to
  pub number : x ≡ pair_key from to

-- ---- listing

-- Whether the part is marked at the node.
abbrev pub has_state : List ℕ → ℕ → ℕ → Bool
has_state seen part e = eqb (mark seen (seen_state part e)) 1

-- The pairs of start and e, for each of so many e from the first on at which the part is marked.
unfoldable pub ends_from : List ℕ → ℕ → ℕ → ℕ → ℕ → List ℕ
ends_from seen part start e zero = []
ends_from seen part start e (suc f) =
    cond (has_state seen part e) (pair_key start e ∷ ends_from seen part start (suc e) f) (ends_from seen part start (suc e) f)

-- xs were added to the k numbers that are listed; or there are too many then.
abbrev pub EndsAre : Result ℕ TooMany → List ℕ → List ℕ → ℕ → List ℕ → Type 0
EndsAre (Ok k') xs pairs k pairs' = (k' ≤ max_pairs) × (take k' pairs' ≡ take k pairs ++ xs)
EndsAre (Err e) xs pairs k pairs' = max_pairs < length (take k pairs ++ xs)

-- The pairs with a number below b are listed, k of them.
pub record ListedBelow (L : Lists) (named b : ℕ) (pairs : List ℕ) (k : ℕ) : Type 0 where
  pub few : k ≤ max_pairs
  pub are : ListOf ◌<◌ (λ x. PairIn L named x × (x < b)) (take k pairs)

-- The same, or there are too many pairs.
abbrev pub ListedUpTo : Result ℕ TooMany → Lists → ℕ → ℕ → List ℕ → Type 0
ListedUpTo (Ok k) L named b pairs = ListedBelow L named b pairs k
ListedUpTo (Err e) L named b pairs = Over max_pairs (PairIn L named)

-- "Over 4,096 pairs": the pairs are listed, so many; or they are too many.
abbrev pub PairsAre : Result ℕ TooMany → Lists → ℕ → List ℕ → Type 0
PairsAre (Ok k) L named pairs = (k ≤ max_pairs) × ListOf ◌<◌ (PairIn L named) (take k pairs)
PairsAre (Err e) L named pairs = Over max_pairs (PairIn L named)
