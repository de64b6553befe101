-- `core_graph::triples::triples` meets its contract. Assumes nothing.
use borrow.Author.Rules.{rules}
use Rattle.std.proofs.lemmas.Result.{err_from_is_err_and}
use Rattle.core_graph.proofs.TripleAnswers.{triples_beyond, triples_listed}
use Rattle.core_graph.specs.Outcomes.{TripleKeysListed}
use Rattle.sets.proofs.Slices.{given_back}
use Rattle.core_graph.proofs.triples.triples.Goals as goal

pub returns-in_err-add_all : goal.returns-in_err-add_all
returns-in_err-add_all c = rw (err_from_is_err_and c.from_residual.result c.from_residual.ensures.1).1
    (λ P h b l. triples_beyond c.args.heads.now.fit c.args.nodes.now c.requires.1 P h b l c.requires.2 (rw (c.empty-set.ensures.0, c.empty-set.ensures.1) at c.in_err-add_all.ensures))

pub returns : goal.returns
returns c =
    let a = c.args in
    let h = a.heads.now in
    let g = c.in_ok-add_all.ensures in
    given_back (λ keys. TripleKeysListed c.add_all.new.set.count a.nodes.now h.rules.now h.count h.keys.now h.counts.now a.triples.now keys) g.1 (search rules)
    (triples_listed h.fit a.nodes.now c.requires.1 (rw (c.empty-set.ensures.0, c.empty-set.ensures.1) at g.0) (rw (c.empty-set.ensures.0, c.requires.2) at g.1.long))
