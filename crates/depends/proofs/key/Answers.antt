-- `key` meets its contract: what is left of the mask names the columns to add. Assumes nothing.
use native.Mathlib.Omega.{arith}
use Rattle.depends.proofs.Keying.{keying_done, keying_none, keying_room, keying_skips, keying_start, keying_takes}
use borrow.Author.Rules.{rules}
use Rattle.depends.proofs.key.Goals as goal
use Rattle.depends.proofs.key.Goals.{else-bit-ne0, then-bit-ne0}

pub loop-c-init : goal.loop-c-init
loop-c-init c = search (keying_start, rules)

pub returns-then-rest-eq0 : goal.returns-then-rest-eq0
returns-then-rest-eq0 c = search (keying_none, rules)

pub overflow_mul-key : goal.overflow_mul-key
overflow_mul-key c = omega (arith, keying_room c.loop-c.invariant c.loop-c-test.true)

pub overflow_add-key : goal.overflow_add-key
overflow_add-key c = omega (arith, keying_room c.loop-c.invariant c.loop-c-test.true)

pub loop-c-preserved : goal.loop-c-preserved
loop-c-preserved c = elim c.if-bit-ne0.branch [
  | then-bit-ne0 w ↦ rw w.key-is (keying_takes c.loop-c.invariant c.loop-c-test.true w.if-bit-ne0.true)
  | else-bit-ne0 w ↦ rw w.key-is (keying_skips c.loop-c.invariant c.loop-c-test.true w.if-bit-ne0.false)
]

pub returns : goal.returns
returns c = search (keying_done, rules)
