-- `is_broken` meets its contract: what is said of the parts is said of the pack. Assumes nothing.
use lib.ListN.{length-take}
use lib.Seq.{length-take-le}
use mathlib.Core.Path.{sym}
use native.Mathlib.Omega.{arith}
use Rattle.depends.proofs.Even.{broken_of, part_end}
use Rattle.names.proofs.Cells.{rows_few, rows_long}
use Rattle.names.proofs.Dependency.{dependencies_few}
use Rattle.depends.proofs.is_broken.Goals as goal

pub overflow_mul-end : goal.overflow_mul-end
overflow_mul-end c = omega (arith, dependencies_few c.requires.is.given.setting)

pub overflow_add-end : goal.overflow_add-end
overflow_add-end c = omega (arith, dependencies_few c.requires.is.given.setting)

pub slice_bounds-some_broken-end : goal.slice_bounds-some_broken-end
slice_bounds-some_broken-end c = omega (arith, part_end c.requires.is)

pub slice_bounds-some_broken-end-2 : goal.slice_bounds-some_broken-end-2
slice_bounds-some_broken-end-2 c = let g = c.requires.is.given in sym (length-take-le _ _ (omega (arith, rows_long g, g.many)))

pub some_broken-requires : goal.some_broken-requires
some_broken-requires c = simp length-take (omega (arith, rows_few c.requires.is.given))

pub returns : goal.returns
returns c = λ P g. broken_of g c.some_broken.ensures
