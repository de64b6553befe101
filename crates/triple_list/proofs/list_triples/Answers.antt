-- `triple_list::list_triples` meets its contract: the IRIs' edges, and then those of the sets. Assumes nothing.
use native.Mathlib.Omega.{arith}
use Rattle.core_lists.proofs.Places.{shaped}
use Rattle.triple_list.proofs.TripleLaws.{triples_listed}
use Rattle.triple_list.proofs.list_triples.Goals as goal

pub returns : goal.returns
returns c = let m = c.list_iris-next.ensures in
    let n = c.list_sets.ensures in
    λ P I listed clean bs ordered. triples_listed I listed clean bs ordered c.args.places.now c.requires.1 (c.demand_table-demands.ensures P.setting (shaped I)) m.0
    n.0 (omega (arith, m.1, c.requires.3)) n.1
