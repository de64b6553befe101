use lib.ListN.{length}
use mathlib.Core.Path.{◌≡◌}
use Rattle.clash.proofs.ClashLaws.{Searched}
use Rattle.clash.proofs.find_clash.Given as goal

abbrev pub invariant-loop-i : goal.invariant-loop-i
invariant-loop-i l = (l.i-end ≡ length l.core.triples.now) × Searched l.shapes l.core.triples.now l.core.masks.now l.i
