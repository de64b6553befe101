-- `spread::round` meets its contract: the first turns are taken. Assumes nothing.
use lib.ListN.{get_or, length}
use native.Mathlib.Omega.{arith}
use Prim.Native.Nat.{◌<◌}
use Rattle.spread.proofs.Spreading.{round_start, round_on, round_skip, round_done, turn_inside}
use Rattle.spread.specs.Spread.{TripleFits}
use Rattle.meaning.proofs.Lists.Places.{∈_at}
use Rattle.spread.proofs.round.Goals as goal
use Rattle.spread.proofs.round.Goals.{After-turn-at}

-- ---- places: the turn's triple has one, and its nodes have theirs

inside : (c : After-turn-at) → c.turn-at.result < length c.args.triples.now
inside c = omega (arith, c.turn-at.ensures, turn_inside c.args.triples.now c.loop-i.i c.loop-i-test.true c.args.back)

fits : (c : After-turn-at) → TripleFits (get_or c.args.triples.now c.turn-at.result 0)
fits c = c.requires.1 _ (∈_at c.args.triples.now c.turn-at.result (inside c))

pub loop-i-init : goal.loop-i-init
loop-i-init c = round_start _ _ _ _ _

pub bounds-masks-key : goal.bounds-masks-key
bounds-masks-key c = let t = (goal.at.bounds-masks-key c).After-turn-at in omega (arith, (fits t).from, t.loop-i.invariant.long, t.requires.3)

pub loop-i-preserved-then-passed-at : goal.loop-i-preserved-then-passed-at
loop-i-preserved-then-passed-at c = let t = (goal.at.loop-i-preserved-then-passed-at c).After-turn-at in round_skip t.loop-i.invariant t.loop-i-test.true _ t.turn-at.ensures c.if-passed-at.true

pub pass-changed-requires : goal.pass-changed-requires
pass-changed-requires c = let t = (goal.at.pass-changed-requires c).After-turn-at in (t.requires.0, fits t, omega (arith, t.loop-i.invariant.long, t.requires.3))

pub loop-i-preserved : goal.loop-i-preserved
loop-i-preserved c = let p = c.pass-changed in
    round_on c.loop-i.invariant c.loop-i-test.true _ c.turn-at.ensures p.result _ p.ensures.0 p.auto.masks p.ensures.1 p.ensures.2

pub returns : goal.returns
returns c = (round_done c.loop-i.invariant (omega arith), c.loop-i.invariant.progress)
