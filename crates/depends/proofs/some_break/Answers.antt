-- `some_break` meets its contract: no two rows before row i break the dependency. Assumes nothing.
use Rattle.depends.proofs.Listing.{rows_break, rows_done, rows_more, rows_other, rows_start}
use borrow.Author.Rules.{rules}
use Rattle.depends.proofs.some_break.Goals as goal

pub loop-i-init : goal.loop-i-init
loop-i-init c = search (rows_start, rules)

pub loop-i-preserved-then-rows-at : goal.loop-i-preserved-then-rows-at
loop-i-preserved-then-rows-at c = search (rows_other, rules)

pub returns-then-some_differs : goal.returns-then-some_differs
returns-then-some_differs c =
    let t = rows_break c.loop-i.invariant c.loop-i-test.true c.if-rows-at.false _ _ c.key-l.ensures c.key-r.ensures c.some_differs.ensures
    c.if-some_differs.true in
    (t, search rules, search rules)

pub loop-i-preserved : goal.loop-i-preserved
loop-i-preserved c =
    rows_more c.loop-i.invariant c.loop-i-test.true c.if-rows-at.false _ _ c.key-l.ensures c.key-r.ensures c.some_differs.ensures
    c.if-some_differs.false

pub returns : goal.returns
returns c = (search (rows_done, rules), search rules, search rules)
