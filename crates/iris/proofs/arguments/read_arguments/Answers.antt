-- `arguments::read_arguments` meets its contract: in its loop, the values found and those of the text's rest are the whole.
-- Assumes nothing.
use borrow.Author.Rules.{rules}
use lib.ListN.{drop, length, length-drop, length-take}
use mathlib.Core.Path.{ap}
use Prim.Native.Nat.{◌+◌, ◌-◌}
use lib.Seq.{take_all}
use native.Mathlib.Omega.{arith}
use Rattle.iris.proofs.ArgumentsRead.{all_read, end_inside, found_small, no_value, so_far_again, so_far_start, too_few, too_many}
use Rattle.iris.proofs.arguments.read_arguments.Goals as goal

pub loop-n-init : goal.loop-n-init
loop-n-init c = (search rules, λ P w. so_far_start _ _ _)

pub slice_bounds-find_value-end : goal.slice_bounds-find_value-end
slice_bounds-find_value-end c = omega (arith, length-take c.part_len-end.result c.loop-n.rest.now, end_inside c.loop-n.rest.now c.part_len-end.ensures)

pub returns-in_err-v : goal.returns-in_err-v
returns-in_err-v c = rw c.from_residual.ensures (λ P w. no_value (c.loop-n.invariant.1 P w) c.part_len-end.ensures (c.find_value.ensures P w) c.in_err-v.was)

pub overflow_cast-values : goal.overflow_cast-values
overflow_cast-values c = omega (arith, found_small c.requires.0 _ c.find_value.ensures c.in_ok-v.was)

pub returns-then-n-arity : goal.returns-then-n-arity
returns-then-n-arity c =
    λ P w. all_read (c.loop-n.invariant.1 P w) c.part_len-end.ensures (c.find_value.ensures P w) c.in_ok-v.was c.if-end-rest.true
    (omega (arith, c.requires.1)) c.if-n-arity.true

pub returns-else-n-arity : goal.returns-else-n-arity
returns-else-n-arity c =
    λ P w. too_few (c.loop-n.invariant.1 P w) c.part_len-end.ensures (c.find_value.ensures P w) c.in_ok-v.was c.if-end-rest.true c.if-n-arity.false

pub overflow_add-rest : goal.overflow_add-rest
overflow_add-rest c = omega (arith, end_inside c.loop-n.rest.now c.part_len-end.ensures, c.if-end-rest.false)

pub slice_bounds-rest-count : goal.slice_bounds-rest-count
slice_bounds-rest-count c = omega (arith, end_inside c.loop-n.rest.now c.part_len-end.ensures, c.if-end-rest.false)

pub slice_bounds-rest-start : goal.slice_bounds-rest-start
slice_bounds-rest-start c = omega (arith, end_inside c.loop-n.rest.now c.part_len-end.ensures, c.if-end-rest.false)

pub loop-n-preserved : goal.loop-n-preserved
loop-n-preserved c =
    let all = take_all (length c.loop-n.rest.now - (c.part_len-end.result + 1)) (drop (c.part_len-end.result + 1) c.loop-n.rest.now) (omega (arith, length-drop (c.part_len-end.result + 1) c.loop-n.rest.now)) in (
      omega (arith, length-drop (c.part_len-end.result + 1) c.loop-n.rest.now, ap length all),
      λ P w. rw all (so_far_again (c.loop-n.invariant.1 P w) c.part_len-end.ensures (c.find_value.ensures P w) c.in_ok-v.was c.if-end-rest.false (omega (arith, c.requires.1))),
    )

pub returns : goal.returns
returns c = λ P w. too_many (c.loop-n.invariant.1 P w) c.loop-n-test.false
