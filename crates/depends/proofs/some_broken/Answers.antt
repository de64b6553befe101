-- `some_broken` meets its contract: the rows keep each dependency before dependency i. Assumes nothing.
use Rattle.depends.proofs.DependencyLoop.{asking_done, asking_found, asking_on, asking_start}
use borrow.Author.Rules.{rules}
use Rattle.depends.proofs.some_broken.Goals as goal

pub loop-i-init : goal.loop-i-init
loop-i-init c = search (asking_start, rules)

pub returns-then-some_break : goal.returns-then-some_break
returns-then-some_break c =
    asking_found c.loop-i.invariant c.loop-i-test.true c.some_break.ensures.0 c.if-some_break.true

pub loop-i-preserved : goal.loop-i-preserved
loop-i-preserved c =
    let s = c.some_break in
    asking_on c.loop-i.invariant c.loop-i-test.true s.ensures.0 _ _ c.if-some_break.false s.ensures.1 s.ensures.2

pub returns : goal.returns
returns c = search (asking_done, rules)
