-- Bytes compared at their places. Assumes nothing.
use Rattle.std.specs.Prelude.{get_or, List, ◌≡◌, ℕ, ◌+◌, ◌<◌}

-- the n bytes at a and at b are the same
abbrev pub SameBytes : List ℕ → ℕ → ℕ → ℕ → Type 0
SameBytes s a b n = (k : ℕ) → k < n → get_or s (a + k) 0 ≡ get_or s (b + k) 0
