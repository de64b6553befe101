-- `core_graph::nodes::nodes` meets its contract: the IRIs are the keys below the first literal's. Assumes nothing.
use borrow.Author.Rules.{rules}
use native.Mathlib.Omega.{arith}
use Rattle.std.proofs.lemmas.Result.{err_from_is_err_and}
use Rattle.core_graph.proofs.Passed.{nodes_beyond, nodes_listed, nodes_over}
use Rattle.core_graph.specs.Outcomes.{NodeKeysListed}
use Rattle.sets.proofs.Slices.{given_back}
use Rattle.core_graph.proofs.nodes.nodes.Goals as goal

pub rank-requires : goal.rank-requires
rank-requires c = rw c.members.ensures c.add_all.new.set.ascending

pub returns-then-rank-gt-MAX_IRIS : goal.returns-then-rank-gt-MAX_IRIS
returns-then-rank-gt-MAX_IRIS c = λ P h b. nodes_over P h b (rw (c.empty-set.ensures.0, c.empty-set.ensures.1) at c.in_ok-add_all.ensures.0)
    (omega (arith, rw (c.rank.ensures, c.members.ensures) at c.if-rank-gt-MAX_IRIS.true))

pub returns-in_err-add_all : goal.returns-in_err-add_all
returns-in_err-add_all c = rw (err_from_is_err_and c.from_residual.result c.from_residual.ensures.1).1
    (λ P h b. nodes_beyond P h b c.requires (rw (c.empty-set.ensures.0, c.empty-set.ensures.1) at c.in_err-add_all.ensures))

pub returns : goal.returns
returns c =
    let a = c.args in
    let h = a.heads.now in
    let g = c.in_ok-add_all.ensures in
    given_back (λ keys. NodeKeysListed c.add_all.new.set.count h.rules.now h.count h.keys.now h.counts.now a.nodes.now keys) g.1 (search rules)
    (nodes_listed (rw (c.empty-set.ensures.0, c.empty-set.ensures.1) at g.0) (omega (arith, rw (c.rank.ensures, c.members.ensures) at c.if-rank-gt-MAX_IRIS.false)))
