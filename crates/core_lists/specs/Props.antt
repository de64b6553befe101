-- That a core fits has one proof at most, as a ghost field asks. Assumes nothing.
use Rattle.std.specs.Prelude.{ℕ, ◌<◌, List, [], ◌∷◌}
use Rattle.std.specs.Coded.{le_prop}
use Rattle.core_lists.specs.Input.{CoreFits}
use Rattle.meaning.specs.Ordered.{InOrder, before, empty}

InOrder-prop : (ks : List ℕ) → IsProp (InOrder ◌<◌ ks)
InOrder-prop [] empty empty = λ i. empty
InOrder-prop (k ∷ ks) (before f a) (before g b) = λ i. before (λ j m. le_prop (f j m) (g j m) i) (InOrder-prop ks a b i)

ruleset props = (InOrder-prop, le_prop)

pub CoreFits-prop : (nodes triples masks : List ℕ) → IsProp (CoreFits nodes triples masks)
CoreFits-prop nodes triples masks = Prim.hlevel props
