-- What code that writes numbers into a lent slice leaves there. Assumes nothing.
use Rattle.std.specs.Prelude.{drop, length, take, List, ◌++◌, ℕ, ◌+◌}

-- The list with these numbers from a place on, in the place of as many.
abbrev pub overwritten : ℕ → List ℕ → List ℕ → List ℕ
overwritten at numbers out = take at out ++ numbers ++ drop (at + length numbers) out
