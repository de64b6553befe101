-- `alive::mark_alive` meets its contract. Assumes nothing.
use native.Mathlib.Omega.{arith}
use mathlib.Core.Path.{refl}
use Rattle.meaning.specs.Limits.{state_words}
use Rattle.states.specs.Lists.{lists_of}
use Rattle.states.specs.Living.{Living}
use Rattle.std.proofs.Common.{rules}
use Rattle.worklist.proofs.Growth.{given_back}
use Rattle.worklist.specs.Table.{Stacked}
use Rattle.alive.proofs.Linking.{heads_ready, link_ready, links_cause, links_fit, no_predicates}
use Rattle.alive.proofs.mark_alive.Goals as goal

pub link_parts-requires : goal.link_parts-requires
link_parts-requires c = let h = c.requires.0.0.query.few in
    (link_ready c.requires.0.0, omega arith)

pub list_by_object-requires : goal.list_by_object-requires
list_by_object-requires c = let h = c.requires.0.0.query.few in
    ((links_fit h c.link_parts.ensures, no_predicates h c.link_parts.ensures), heads_ready h)

pub mark_all-requires : goal.mark_all-requires
mark_all-requires c = ((c.requires.0.0, (c.requires.0.1, links_cause c.requires.0.0 c.link_parts.ensures c.list_by_object.ensures)), c.requires.1)

pub returns : goal.returns
returns c = let k = c.mark_all.ensures in
    let g = given_back (λ marked waiting stack. Living (lists_of c.args.lists.now) marked × Stacked state_words waiting stack 0) k.3
    (search rules) (search rules) (search rules) (k.0, k.1) in
    (g.0, g.1, k.2, record { is = refl })
