-- `alive::links::link_parts` meets its contract. Assumes nothing.
use native.Mathlib.Omega.{arith}
use Rattle.alive.proofs.Linking.{link_again, link_done, link_start}
use Rattle.alive.proofs.links.link_parts.Goals as goal

pub loop-e-init : goal.loop-e-init
loop-e-init c = link_start

pub cause-requires : goal.cause-requires
cause-requires c = c.requires.0.ready _ (omega arith)

pub loop-e-preserved : goal.loop-e-preserved
loop-e-preserved c = let y = c.requires.1 in
    let z = c.loop-e.auto.links in
    link_again c.loop-e.invariant (omega arith) c.cause.ensures

pub returns : goal.returns
returns c = link_done c.loop-e.invariant (omega arith)
