-- What is written into the lent lists, pairs as two 16-bit numbers each and the graph; and what they are searched with. Assumes
-- nothing.
use Rattle.std.specs.Prelude.{drop, length, take, ℕ, ◌*◌, ◌≤◌}
use mathlib.Core.List.{List, ◌++◌, flatten, map}
use Rattle.evaluate.specs.Answered.{AllPairs}
use Rattle.evaluate.specs.Named.{pair_of}
use Rattle.meaning.specs.Limits.{pair_width, seen_words, state_words}

-- "A pair is listed as its start and end numbers": the first k stand at the front; entries past them keep theirs.
abbrev pub with_pairs : ℕ → List ℕ → List ℕ → List ℕ
with_pairs k found pairs = flatten (map pair_of (take k found)) ++ drop (k * pair_width) pairs

-- n numbers are there, and have room
abbrev pub CanCopy : ℕ → List ℕ → List ℕ → Type 0
CanCopy n src dst = (n ≤ length src) × (n ≤ length dst)

-- so are k pairs
abbrev pub PairsFit : ℕ → List ℕ → List ℕ → Type 0
PairsFit k found pairs = (k ≤ length found) × (k * pair_width ≤ length pairs) × AllPairs (take k found)

-- ---- what is searched in

-- the tables of states and the stack of words are long enough
abbrev pub TableRoom : List ℕ → List ℕ → List ℕ → List ℕ → Type 0
TableRoom alive waiting stack seen = (state_words ≤ length alive) × (state_words ≤ length waiting) × (state_words ≤ length stack) × (seen_words ≤ length seen)
