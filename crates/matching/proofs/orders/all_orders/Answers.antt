-- `matching::orders::all_orders` meets its contract: the orders of the first j atoms. Assumes nothing.
use lib.ListN.{get_or, drop}
use mathlib.Core.Path.{refl, ◌∙◌}
use native.Mathlib.Omega.{arith}
use Prim.Native.Nat.{◌+◌, ◌*◌}
use Rattle.matching.specs.Plan.{KeyVariables}
use Rattle.matching.proofs.Order.{ordering_start, ordering_again, ordering_done, first_few}
use Rattle.meaning.specs.Limits.{atom_width}
use Rattle.meaning.proofs.Lists.Parts.{as_part}
use Rattle.matching.proofs.orders.all_orders.Goals as goal

pub loop-j-init : goal.loop-j-init
loop-j-init c = (refl, ordering_start _ _ _ refl)

pub ranks-n-requires : goal.ranks-n-requires
ranks-n-requires c = (
  as_part KeyVariables (c.loop-j.j * atom_width + 2) (get_or c.args.atoms.now (c.loop-j.j * atom_width + 1) 0)
      (drop (c.loop-j.j * atom_width + 2) c.args.atoms.now) (c.requires.0.variables c.loop-j.j c.loop-j-test.true),
  omega (arith, c.requires.1, c.loop-j.invariant.0),
)

pub written-more-requires : goal.written-more-requires
written-more-requires c = (
  omega (arith, c.requires.0.few, c.loop-j-test.true),
  first_few c.ranks-n.result c.ranks-n.new.out
      (omega (
        arith,
        c.ranks-n.ensures.0,
        (as_part KeyVariables (c.loop-j.j * atom_width + 2) (get_or c.args.atoms.now (c.loop-j.j * atom_width + 1) 0)
            (drop (c.loop-j.j * atom_width + 2) c.args.atoms.now) (c.requires.0.variables c.loop-j.j c.loop-j-test.true)).short,
      )),
)

pub mark-next-requires : goal.mark-next-requires
mark-next-requires c = (as_part KeyVariables (c.loop-j.j * atom_width + 2) (get_or c.args.atoms.now (c.loop-j.j * atom_width + 1) 0)
    (drop (c.loop-j.j * atom_width + 2) c.args.atoms.now) (c.requires.0.variables c.loop-j.j c.loop-j-test.true)).below

pub loop-j-preserved : goal.loop-j-preserved
loop-j-preserved c = (
  c.ranks-n.auto.out ∙ c.loop-j.invariant.0,
  ordering_again c.loop-j.invariant.1 c.loop-j-test.true c.requires.0 _ _ refl refl _ _ c.ranks-n.ensures c.written-more.ensures
      (omega arith),
)

pub returns : goal.returns
returns c = ordering_done c.loop-j.invariant.1 c.loop-j-test.false c.requires.0
