-- `query::parts::pack` meets its contract. Assumes nothing.
use mathlib.Core.Path.{refl}
use Rattle.query.specs.Tree.{part}
use Rattle.query.proofs.parts.pack.Goals as goal

pub returns : goal.returns
unfolding part
returns c = refl
