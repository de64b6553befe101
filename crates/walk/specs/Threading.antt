-- What the threading of parts asks and leaves, as its contracts say it. Assumes nothing.
use Rattle.std.specs.Prelude.{length, get_or, List, ◌≡◌, ℕ, ◌≤◌, ◌<◌}
use Rattle.meaning.specs.Limits.{max_parts}
use Rattle.meaning.specs.Pack.{Text}
use Rattle.query.specs.Answer.{HoldsQuery}
use Rattle.walk.specs.Parts.{part_of, Child, Ordered, Linked, listed}

-- The part i is one of n, and its own parts stand before it.
pub record PartAmong (t next : List ℕ) (n i : ℕ) : Type 0 where
  pub inside : i < n
  pub short : n ≤ max_parts
  pub parts : n ≤ length t
  pub room : n ≤ length next
  pub before : (c : ℕ) → Child (part_of t i) c → c < i
  pub ordered : Ordered (part_of t i)

-- What is to be done after the parts of the part i is written, and nothing else.
pub record PartLinked (t next next' : List ℕ) (n i : ℕ) : Type 0 where
  pub linked : Linked (listed next') n i (part_of t i)
  pub kept : (x : ℕ) → (Child (part_of t i) x → ⊥) → get_or next' x 0 ≡ get_or next x 0

-- The list t holds a query in its first n parts, and there is room for what is to be done after each.
pub record Threadable (t next : List ℕ) (n : ℕ) : Type 0 where
  pub text : Text
  pub held : HoldsQuery text t n
  pub parts : n ≤ length t
  pub room : n ≤ length next
