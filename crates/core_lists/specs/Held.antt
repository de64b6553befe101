-- The core that the code holds, and the packs whose core it is. Assumes nothing.
use Rattle.std.specs.Prelude.{ℕ, List}
use Rattle.core_lists.specs.Input.{Input}
use Rattle.core_lists.specs.declared.Core.{Core}
use Rattle.meaning.specs.Pack.{Pack}

abbrev pub InputOf : Pack → List (List ℕ) → Core → Type 0
InputOf P table c = Input P table c.nodes.now c.triples.now c.masks.now
