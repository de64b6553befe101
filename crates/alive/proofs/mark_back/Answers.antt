-- `alive::mark_back` meets its contract. Assumes nothing.
use native.Mathlib.Omega.{arith}
use Prim.Native.Nat.{◌/◌}
use Rattle.meaning.specs.Limits.{node_words}
use Rattle.states.proofs.Numbers.{word_part}
use Rattle.states.proofs.PartKinds.{part_ready}
use Rattle.alive.proofs.Growing.{back_again, back_done, back_start, link_part}
use Rattle.alive.proofs.States.{ranges_ready}
use Rattle.alive.proofs.mark_back.Goals as goal

pub offset_bounds-heads-j : goal.offset_bounds-heads-j
offset_bounds-heads-j c = let y = word_part c.args.w c.requires.1.0.1.0 in omega arith

pub bounds-heads-j : goal.bounds-heads-j
bounds-heads-j c = let y = word_part c.args.w c.requires.1.0.1.0 in
    let z = c.requires.0.1.1.long in
    omega arith

pub offset_bounds-heads-j-2 : goal.offset_bounds-heads-j-2
offset_bounds-heads-j-2 c = let y = word_part c.args.w c.requires.1.0.1.0 in omega arith

pub bounds-heads-j-2 : goal.bounds-heads-j-2
bounds-heads-j-2 c = let y = word_part c.args.w c.requires.1.0.1.0 in
    let z = c.requires.0.1.1.long in
    omega arith

pub loop-e-init : goal.loop-e-init
loop-e-init c = back_start c.requires.0.1.1 c.requires.1.0.1.0 c.requires.1.1

pub bounds-links-e : goal.bounds-links-e
bounds-links-e c = let y = word_part c.args.w c.requires.1.0.1.0 in
    let z = c.requires.0.1.1.inside (c.args.w / node_words) (omega arith) in
    let t = c.loop-e-test.true in
    omega arith

pub mark_part-requires : goal.mark_part-requires
mark_part-requires c = let g = c.loop-e.invariant in
    let z = link_part g c.requires.0.1.1 c.requires.1.0.1.0 c.loop-e-test.true in
    let y = c.requires.0.0.query.in_wanted in (
      ranges_ready c.requires.0.0 c.args.board.now.marked.now c.requires.1.0.0 c.requires.1.0.1.1 c.requires.1.0.1.0 c.requires.0.1.0,
      ((part_ready c.requires.0.0 _ z, omega arith), (omega arith, g.adds.after)),
    )

pub loop-e-preserved : goal.loop-e-preserved
loop-e-preserved c = back_again c.loop-e.invariant c.requires.0.1.1 c.requires.1.0.1.0 c.loop-e-test.true
    c.requires.0.0 c.requires.0.1.0 c.requires.1.0.0 c.requires.1.0.1.1 c.mark_part.ensures

pub returns : goal.returns
returns c = back_done c.loop-e.invariant (omega arith)
