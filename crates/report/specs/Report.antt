-- An answer as a list of numbers, for a caller in another language. Assumes nothing.
use Rattle.std.specs.Prelude.{Bool, cond, List, ◌∷◌, ℕ}

-- 25 numbers: both counts, the answer, and the 22 of the clash that refusal 10 gives (zero otherwise)
abbrev pub reported : ℕ → ℕ → ℕ → List ℕ → List ℕ
reported nodes triples answer clash = nodes ∷ triples ∷ answer ∷ clash

-- yes is 1, no is 0
abbrev pub number : Bool → ℕ
number said = cond said 1 0
