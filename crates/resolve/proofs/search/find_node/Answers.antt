-- `search::find_node` meets its contract. Assumes nothing.
use borrow.Author.Rules.{rules}
use borrow.Author.Tests.{tests}
use native.Mathlib.Omega.{arith}
use mathlib.Core.Path.{refl}
use Rattle.std.proofs.lemmas.Iterator.{IsFirst-from_position, YieldsList-from_range}
use Rattle.resolve.specs.Search.{HasNumbers}
use Rattle.resolve.proofs.Searching.{No, Yes, fails, first_of, map_same}
use Rattle.resolve.proofs.search.find_node.Goals as goal

pub returns : goal.returns
returns c =
    let Q = HasNumbers c.args.nodes.now c.args.kind c.args.number c.args.arguments in
    rw (map_same c.position.result c.map.result c.map.ensures.cases (λ x y k. search rules))
    (first_of Q c.args.count c.position.result
    (IsFirst-from_position _ _ _ (Yes Q c.args.count) (No Q c.args.count) c.position.ensures.ran (YieldsList-from_range 0 c.args.count c.args.count refl (omega arith))
    (λ x q k. λ l. search (rules, tests)) (λ x q k. (search (rules, tests), λ l. search (rules, fails)))))
