-- `bind_row` meets its contract: the variables of the columns before c are bound to the row's values. Assumes nothing.
use mathlib.Core.Logic.{inl, inr}
use mathlib.Core.Path.{refl}
use native.Mathlib.Omega.{arith}
use Rattle.matching.proofs.Columns.{columns_again, columns_differ, columns_done, columns_start, variable_below}
use borrow.Author.Rules.{rules}
use Rattle.matching.proofs.binding.bind_row.Goals as goal
use Rattle.matching.proofs.binding.bind_row.Goals.{else-env-v-via-then-env-v+else-env-v-2, else-env-v-via-else-env-v}

pub loop-c-init : goal.loop-c-init
loop-c-init c = columns_start _ _ _ (search rules) (search rules)

pub bounds-env-v : goal.bounds-env-v
bounds-env-v c = omega (arith, variable_below c.requires.0 c.loop-c.c-index c.loop-c-test.true)

pub bounds-env-v-then-env-v : goal.bounds-env-v-then-env-v
bounds-env-v-then-env-v c = omega (arith, variable_below c.requires.0 c.loop-c.c-index c.loop-c-test.true)

pub returns-then-env-v-2 : goal.returns-then-env-v-2
returns-then-env-v-2 c = columns_differ c.loop-c.invariant (search rules) _ refl c.if-env-v.true c.if-env-v-2.true

pub bounds-env-v-in-loop-c : goal.bounds-env-v-in-loop-c
bounds-env-v-in-loop-c c = omega (arith, variable_below c.requires.0 c.loop-c.c-index c.loop-c-test.true)

pub loop-c-preserved : goal.loop-c-preserved
loop-c-preserved c = let h = c.loop-c-test.true in
    columns_again c.loop-c.invariant h _ refl (variable_below c.requires.0 c.loop-c.c-index h)
    (elim c.else-env-v.branch [ else-env-v-via-then-env-v+else-env-v-2 w ↦ inr w.if-env-v-2.false | else-env-v-via-else-env-v w ↦ inl w.if-env-v.false ])

pub returns : goal.returns
returns c = columns_done c.loop-c.invariant (search rules)
