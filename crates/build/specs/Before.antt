-- What build answers, by what the check of its bytes comes to: the outcomes of construct's `Refuses` and `Gives`, which cite the
-- bytes for nothing else. So that what it gave before card 14 can be said beside what it gives. Assumes nothing.
use Rattle.std.specs.Prelude.{List, Result, IsOkAnd, ◌≡◌, ℕ}
use Rattle.construct.specs.Outcome.{NoneObeys, SomeObeys, clashing, refused_as}
use Rattle.graph.specs.Fronts.{GraphFronts}
use Rattle.graph.specs.declared.Size.{Size}
use Rattle.meaning.specs.Clash.{ClashGiven}
use Rattle.meaning.specs.NoGraph.{MixedKinds, TooLarge, TwoObjects}
use Rattle.meaning.specs.Pack.{Pack}
use Rattle.meaning.specs.declared.refusal.Refusal.{Refusal}
use Rattle.pack.specs.Checked.{Checked, accepted, refused}

-- 3 to 11
pub data RefusedBy (checked : Checked) (r : Result Size Refusal) : Type 0 where
  not_accepted : (k : ℕ) → checked ≡ refused k → r ≡ refused_as k → RefusedBy checked r
  too_large : (P : Pack) → checked ≡ accepted P → TooLarge P → r ≡ refused_as 9 → RefusedBy checked r
  two_objects : (P : Pack) → checked ≡ accepted P → ¬ TooLarge P → NoneObeys P → (subject : List ℕ) (predicate : ℕ) (first second : List ℕ)
      → ClashGiven P subject predicate first second → r ≡ clashing subject predicate first second → RefusedBy checked r
  mixed_kinds : (P : Pack) → checked ≡ accepted P → ¬ TooLarge P → NoneObeys P → ¬ TwoObjects P → MixedKinds P → r ≡ refused_as 11 → RefusedBy checked r

-- the graph
pub record GraphBy (checked : Checked) (size : Size) (fronts : List (List ℕ)) : Type 0 where
  pub of : Pack
  pub is : checked ≡ accepted of
  pub small : ¬ TooLarge of
  pub obeyed : SomeObeys of
  pub graph : GraphFronts of size.nodes size.triples fronts

abbrev pub GivenBy : Checked → Result Size Refusal → List (List ℕ) → Type 0
GivenBy checked r fronts = IsOkAnd r (λ size. GraphBy checked size fronts)
