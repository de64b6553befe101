-- `predicates::predicate_named` meets its contract. Assumes nothing.
use borrow.Author.Rules.{rules}
use borrow.Author.Tests.{tests}
use native.Mathlib.Omega.{arith}
use lib.ListN.{get_or}
use mathlib.Core.Bool.{true, false}
use mathlib.Core.Path.{refl}
use Rattle.std.proofs.lemmas.Iterator.{IsFirst-from_position, YieldsList-from_range, serves_from_Range}
use Rattle.meaning.specs.Graph.{Called}
use Rattle.resolve.proofs.Names.{called, name_inside, name_place, named, names_few}
use Rattle.resolve.proofs.Searching.{No, Yes, fails, first_of, map_same}
use Rattle.resolve.proofs.predicates.predicate_named.Goals as goal

pub position-requires-clause-callable : goal.position-requires-clause-callable
position-requires-clause-callable c =
    serves_from_Range (λ x q k. search (rules, tests))
    (λ x low high. let a = name_place c.requires high in let b = name_inside c.requires high in let f = names_few c.requires in search rules)

pub returns : goal.returns
returns c = λ P w.
    let Q = Called P c.args.text.now in
    let n = get_or c.args.setting.now.counts 4 0 in
    rw (map_same c.position.result c.map.result c.map.ensures.cases (λ x y k. search rules))
    (named c.requires P w (first_of Q n c.position.result
    (IsFirst-from_position _ _ _ (Yes Q n) (No Q n) c.position.ensures.ran (YieldsList-from_range 0 n n refl (omega arith))
    (λ x q k. λ l. (called c.requires l {b = true} (search (rules, tests)) P w).0 refl)
    (λ x q k. (search (rules, tests), λ l. fails (called c.requires l {b = false} (search (rules, tests)) P w) refl)))))
