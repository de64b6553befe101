-- `alive::mark_all` meets its contract. Assumes nothing.
use mathlib.Core.Path.{subst, sym, ◌≡◌}
use native.Mathlib.Omega.{arith}
use Rattle.meaning.specs.Limits.{state_words}
use Rattle.worklist.proofs.Growth.{same_start, same_then, turn_left, turn_table}
use Rattle.states.specs.Lists.{lists_of}
use Rattle.states.specs.Living.{Living}
use Rattle.worklist.specs.Table.{Same, Stacked, board_of}
use Rattle.alive.proofs.Growing.{grow_again, grow_done, grow_start, taken_alive, taken_marked}
use Rattle.alive.proofs.mark_all.Goals as goal

pub mark_ends-requires : goal.mark_ends-requires
mark_ends-requires c = let a = c.requires.0.0.graph.few_nodes in
    let b = c.requires.0.0.query.few in
    ((omega arith, omega arith), c.requires.1)

pub loop-w-init : goal.loop-w-init
loop-w-init c = (grow_start c.requires.0.0 c.requires.1 c.mark_ends.ensures, same_start)

pub take_word-requires : goal.take_word-requires
take_word-requires c = (_, c.loop-w.invariant.0.marks.stacked)

pub mark_back-requires : goal.mark_back-requires
mark_back-requires c = let g = c.loop-w.invariant.0 in
    let k = c.in-Some.ensures state_words g.marks.stacked in
    (c.requires.0, ((taken_alive c.requires.0.0 g k.3, (k.2, taken_marked c.requires.0.0 g k.3)), turn_table g.marks k.3))

pub loop-w-smaller : goal.loop-w-smaller
loop-w-smaller c = let g = c.loop-w.invariant.0 in
    let k = c.in-Some.ensures state_words g.marks.stacked in
    turn_left g.marks k.3 c.mark_back.ensures

pub loop-w-preserved : goal.loop-w-preserved
loop-w-preserved c = let g = c.loop-w.invariant.0 in
    let k = c.in-Some.ensures state_words g.marks.stacked in
    (grow_again c.requires.0.0 g k.3 c.mark_back.ensures, same_then c.loop-w.invariant.1 (same_then k.3.lent c.mark_back.ensures.lent))

pub returns : goal.returns
returns c = let g = c.loop-w.invariant.0 in
    let k = c.in_default.ensures state_words g.marks.stacked in
    subst (λ b. Living (lists_of c.args.lists.now) b.marked × Stacked state_words b.waiting b.stack 0 × (b.top ≡ 0) × Same (board_of c.args.board.now) b) (sym k.1)
    (grow_done c.requires.0.0 g k.0, subst (Stacked state_words _ _) k.0 g.marks.stacked, k.0, same_then c.mark_ends.ensures.lent c.loop-w.invariant.1)
