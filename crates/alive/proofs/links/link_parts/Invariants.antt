use Rattle.alive.specs.Links.{LinksListed}
use Rattle.alive.proofs.links.link_parts.Given as goal

abbrev pub invariant-loop-e : goal.invariant-loop-e
invariant-loop-e l = LinksListed l.tree l.next l.e l.links
