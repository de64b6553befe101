-- `reached::pairs::list_ends` meets its contract. Assumes nothing.
use lib.Count.{count_trailing_zeros}
use lib.ListN.{length-set}
use native.Mathlib.Omega.{arith}
use Prim.Native.Nat.{◌*◌, ◌+◌, ◌/◌}
use Rattle.reached.proofs.Listing.{ends_at, ends_add, ends_done, ends_over, ends_past, ends_skip, first_there, none_before, none_there}
use Rattle.reached.proofs.pairs.list_ends.Goals as goal
use Rattle.reached.proofs.pairs.list_ends.Goals.{else-e-named, then-e-named+else-listed-eq-MAX_PAIRS}

pub loop-e-preserved-then-ends-eq0 : goal.loop-e-preserved-then-ends-eq0
loop-e-preserved-then-ends-eq0 c = (
  c.loop-e.invariant.0,
  ends_skip c.loop-e.invariant.1 ((c.loop-e.e / 64 + 1) * 64) (omega arith)
      (none_there c.args.seen.now c.args.parts c.loop-e.e c.if-ends-eq0.true),
)

pub returns-then-listed-eq-MAX_PAIRS : goal.returns-then-listed-eq-MAX_PAIRS
returns-then-listed-eq-MAX_PAIRS c = let a = c.loop-e.invariant.0 in
    let b = c.requires.2.1 in
    ends_over (ends_skip c.loop-e.invariant.1 (c.loop-e.e + count_trailing_zeros 64 (ends_at c.args.seen.now c.args.parts c.loop-e.e)) (omega arith)
    (none_before c.args.seen.now c.args.parts c.loop-e.e c.if-ends-eq0.false (c.type_inv.seen _).fits))
    c.if-e-named.true c.if-listed-eq-MAX_PAIRS.true (omega arith)
    (first_there c.args.seen.now c.args.parts c.loop-e.e c.if-ends-eq0.false (c.type_inv.seen _).fits)

pub loop-e-preserved : goal.loop-e-preserved
loop-e-preserved c = let i = c.loop-e.invariant in
    let b = c.requires.2.1 in
    let d = i.1.few in
    let a = i.0 in
    let s = ends_skip i.1 (c.loop-e.e + count_trailing_zeros 64 (ends_at c.args.seen.now c.args.parts c.loop-e.e)) (omega arith)
    (none_before c.args.seen.now c.args.parts c.loop-e.e c.if-ends-eq0.false (c.type_inv.seen _).fits) in
    elim c.if-e-named.branch [
      | then-e-named+else-listed-eq-MAX_PAIRS w ↦ let n = w.if-listed-eq-MAX_PAIRS.false in rw (w.pairs-is, w.listed-is) (
        simp length-set i.0,
        ends_add s w.if-e-named.true (omega arith) (omega arith)
            (first_there c.args.seen.now c.args.parts c.loop-e.e c.if-ends-eq0.false (c.type_inv.seen _).fits)
            w.pair_key.ensures,
      )
      | else-e-named w ↦ rw (w.pairs-is, w.listed-is) (i.0, ends_past s w.if-e-named.false)
    ]

pub returns : goal.returns
returns c = (c.loop-e.invariant.1.few, ends_done c.loop-e.invariant.1 (omega arith))
