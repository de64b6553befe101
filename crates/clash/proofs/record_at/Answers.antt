-- `clash::record_at` meets its contract. Assumes nothing.
use native.Mathlib.Omega.{arith}
use Rattle.meaning.proofs.Lists.Places.{∈_at}
use Rattle.clash.proofs.record_at.Goals as goal

pub core_node-requires : goal.core_node-requires
core_node-requires c = c.requires.0.small _ (∈_at c.args.core.now.nodes.now c.args.i c.requires.1)

pub bounds-core-i-2 : goal.bounds-core-i-2
bounds-core-i-2 c = omega (arith, c.requires.1, c.args.core.now.fits.long)
