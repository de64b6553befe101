-- `core_graph::triples::TripleKeys::add` meets its contract. Assumes nothing.
use Rattle.std.proofs.lemmas.Result.{err_from_is_err_and}
use Rattle.std.specs.Prelude.{◌≡◌, ℕ, ◌≤◌, List, length}
use Rattle.sets.specs.Ordered.{rank_of}
use native.Mathlib.Omega.{arith}
use Rattle.core_graph.proofs.Growing.{full_as, grows_as, grows_one, one_beyond}
use Rattle.core_graph.proofs.TripleKeys.{link_triples, type_triples}
use Rattle.sets.proofs.Rank.{rank_le}
use Rattle.sets.specs.OrderedSet.{set_of}
use Rattle.core_graph.proofs.triples.TripleKeysGives.add.Goals as goal

-- a place is at most the length
few : (x at : ℕ) (nodes : List ℕ) → at ≡ rank_of x nodes → at ≤ length nodes
few x at nodes e = rw e (rank_le x nodes)

pub returns-then-head-eq0 : goal.returns-then-head-eq0
returns-then-head-eq0 c = let s = c.args.triples.now in
    type_triples _ _ _ c.if-head-eq0.true _ s.fits s.ascending

pub overflow_mul-key : goal.overflow_mul-key
overflow_mul-key c = omega (arith, few _ _ c.args.self.now.nodes.now c.rank_near-s.ensures, few _ _ c.args.self.now.nodes.now c.rank_near-o.ensures, c.requires.0.1)

pub overflow_add-key : goal.overflow_add-key
overflow_add-key c = omega (arith, few _ _ c.args.self.now.nodes.now c.rank_near-s.ensures, few _ _ c.args.self.now.nodes.now c.rank_near-o.ensures, c.requires.0.1, c.requires.1.named)

pub overflow_mul-key-2 : goal.overflow_mul-key-2
overflow_mul-key-2 c = omega (arith, few _ _ c.args.self.now.nodes.now c.rank_near-s.ensures, few _ _ c.args.self.now.nodes.now c.rank_near-o.ensures, c.requires.0.1, c.requires.1.named)

pub overflow_add-key-2 : goal.overflow_add-key-2
overflow_add-key-2 c = omega (arith, few _ _ c.args.self.now.nodes.now c.rank_near-s.ensures, few _ _ c.args.self.now.nodes.now c.rank_near-o.ensures, c.requires.0.1, c.requires.1.named)

pub returns-in_err-insert_at : goal.returns-in_err-insert_at
returns-in_err-insert_at c = let s = c.args.triples.now in
    let link = link_triples _ _ _ c.if-head-eq0.false (rw c.subject_key-subject.ensures at c.rank_near-s.ensures) (rw c.object_key-object.ensures at c.rank_near-o.ensures) in
    rw (err_from_is_err_and c.from_residual.result c.from_residual.ensures.1).1 (full_as (set_of s) link (one_beyond s.fits s.ascending c.in_err-insert_at.ensures))

pub returns : goal.returns
returns c = let s = c.args.triples.now in
    let link = link_triples _ _ _ c.if-head-eq0.false (rw c.subject_key-subject.ensures at c.rank_near-s.ensures) (rw c.object_key-object.ensures at c.rank_near-o.ensures) in
    grows_as (set_of s) link (grows_one s.fits s.ascending _ c.in_ok-insert_at.ensures)
