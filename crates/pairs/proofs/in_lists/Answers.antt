-- `pairs::in_lists` meets its contract. Assumes nothing.
use Rattle.std.proofs.Common.{arith, length, ◌≤◌}
use Rattle.meaning.specs.Limits.{max_pairs}
use Rattle.pairs.proofs.FromPrepared.{fits, listed, over}
use Rattle.pairs.proofs.in_lists.Goals as goal
use Rattle.pairs.proofs.in_lists.Goals.{After-find_pairs}

-- the list of what is found keeps its length
found_room : (c : After-find_pairs) → max_pairs ≤ length c.find_pairs.new.found
found_room c = omega (arith, c.find_pairs.auto.found)

pub publish-requires : goal.publish-requires
publish-requires c =
    let a = c.args in
    let r = c.requires.0.ready.ready in
    fits a.size r _ _ (c.find_pairs.ensures _ _ r) c.in-Ok.is (found_room (goal.at.publish-requires c).After-find_pairs) _ c.requires.0.indexed a.nodes.now
    a.triples.now a.index.now a.pairs.now c.requires.1

pub returns-in_default : goal.returns-in_default
returns-in_default c = λ pack query r. over c.args.size r _ _ (c.find_pairs.ensures pack query r) c.in_default.is

pub returns : goal.returns
returns c =
    λ pack query r. let (nodes, triples, index, pairs) = c.publish.ensures in listed c.args.size r _ _ (c.find_pairs.ensures pack query r)
    c.in-Ok.is (found_room (goal.at.returns c).After-find_pairs) _ c.requires.0.indexed _ _ _ _ nodes triples index pairs
