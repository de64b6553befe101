-- `has_left` meets its contract. Assumes nothing.
use Rattle.depends.proofs.KeySearch.{four_left}
use native.Mathlib.Omega.{arith}
use Rattle.depends.proofs.has_left.Goals as goal

pub returns : goal.returns
returns c =
    four_left c.args.lefts.now c.args.left c.args.i (omega (arith, c.requires))
