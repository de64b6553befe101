-- `shapes::shape_table` meets its contract: the table holds the first shapes. Assumes nothing.
use mathlib.Core.Path.{refl}
use Rattle.tables.proofs.Filling.{filled_done, filled_on, filled_start, small}
use Rattle.tables.proofs.shape_tables.shape_table.Goals as goal

pub loop-i-init : goal.loop-i-init
loop-i-init c = filled_start _ _

pub cell_code-v-requires : goal.cell_code-v-requires
cell_code-v-requires c = let s = small c.requires _ c.loop-i-test.true in
    (s.target, s.multiplicity)

pub put_first-filled-requires : goal.put_first-filled-requires
put_first-filled-requires c = let s = small c.requires _ c.loop-i-test.true in
    (s.owner, s.predicate)

pub loop-i-preserved : goal.loop-i-preserved
loop-i-preserved c = rw (c.put_first-filled.ensures, c.cell_code-v.ensures) (filled_on c.loop-i.invariant refl c.requires c.loop-i-test.true)

pub returns : goal.returns
returns c = λ P g. filled_done c.loop-i.invariant refl c.loop-i-test.false P g
