-- `matching::marks::fresh` meets its contract: the variables of the first j atoms. Assumes nothing.
use lib.ListN.{get_or, drop}
use mathlib.Core.Path.{refl}
use Prim.Native.Nat.{◌+◌, ◌*◌}
use Rattle.matching.specs.Plan.{AreVariables}
use Rattle.matching.proofs.Marked.{fresh_start, fresh_again, fresh_done}
use Rattle.meaning.specs.Limits.{atom_width}
use Rattle.meaning.proofs.Lists.Parts.{as_part}
use Rattle.matching.proofs.marks.fresh.Goals as goal

pub loop-j-init : goal.loop-j-init
loop-j-init c = fresh_start _ _ _

pub mark-next-requires : goal.mark-next-requires
mark-next-requires c = let pre = c.requires in
    let s = c.args in
    let j = c.loop-j.j in
    as_part AreVariables (j * atom_width + 2) (get_or s.atoms.now (j * atom_width + 1) 0) (drop (j * atom_width + 2) s.atoms.now)
    (pre.0.variables j c.loop-j-test.true).below

pub loop-j-preserved : goal.loop-j-preserved
loop-j-preserved c = fresh_again c.loop-j.invariant c.loop-j-test.true _ _ refl refl _ c.mark-next.ensures

pub returns : goal.returns
returns c = fresh_done c.loop-j.invariant c.loop-j-test.false _ c.mark.ensures
