-- `core_graph::typing::mark_match` meets its contract. Assumes nothing.
use borrow.Author.Rules.{rules}
use native.Mathlib.Omega.{arith}
use Rattle.core_graph.proofs.Marking.{mark_none, mark_one, place_inside}
use Rattle.std.specs.Prelude.{◌≡◌, ℕ, ◌<◌, ◌≤◌, List, length}
use Rattle.core_graph.specs.Collected.{KnownMatch, subject_key}
use Rattle.meaning.specs.Ordered.{InOrder}
use Rattle.sets.specs.Ordered.{rank_of}
use Rattle.meaning.proofs.Lists.Masks.{weight_made}
use Rattle.core_graph.proofs.typing.mark_match.Goals as goal

-- the subject has a place
placed : (head nodes masks : List ℕ) (k s at : ℕ) → InOrder ◌<◌ nodes → KnownMatch nodes head k → length nodes ≤ length masks → s ≡ subject_key head k → at ≡ rank_of s nodes
    → at < length masks
placed head nodes masks k s at a known l e p = rw (p, e) (omega (arith, l, place_inside nodes head k a known))

pub returns-then-head-ne0 : goal.returns-then-head-ne0
returns-then-head-ne0 c = mark_none _ _ _ c.args.masks.now c.if-head-ne0.true

pub offset_bounds-masks-at : goal.offset_bounds-masks-at
offset_bounds-masks-at c = omega (arith, placed _ _ _ _ _ _ c.requires.2 c.requires.3 c.requires.4 c.subject_key-subject.ensures c.rank_near-at.ensures)

pub bounds-masks-at : goal.bounds-masks-at
bounds-masks-at c = placed _ _ _ _ _ _ c.requires.2 c.requires.3 c.requires.4 c.subject_key-subject.ensures c.rank_near-at.ensures

pub bounds-masks-at-2 : goal.bounds-masks-at-2
bounds-masks-at-2 c = placed _ _ _ _ _ _ c.requires.2 c.requires.3 c.requires.4 c.subject_key-subject.ensures c.rank_near-at.ensures

pub returns : goal.returns
returns c = mark_one _ _ c.args.k c.args.masks.now c.if-head-ne0.false _ (rw c.subject_key-subject.ensures at c.rank_near-at.ensures)
    (placed _ _ _ _ _ _ c.requires.2 c.requires.3 c.requires.4 c.subject_key-subject.ensures c.rank_near-at.ensures)
    (omega (arith, c.requires.0.named)) (search rules) _ (weight_made 16 _ (omega (arith, c.requires.0.named))) (omega arith)
