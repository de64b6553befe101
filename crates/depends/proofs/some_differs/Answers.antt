-- `some_differs` meets its contract: no entry before i differs. Assumes nothing.
use Prim.Native.Nat.{◌+◌, ◌≤◌}
use mathlib.Core.Path.{refl, sym, ◌∙◌}
use Rattle.depends.proofs.KeySearch.{left_differs, looking_found, looking_on, looking_start}
use borrow.Author.Rules.{rules}
use Rattle.depends.proofs.some_differs.Goals as goal
use Rattle.depends.proofs.some_differs.Goals.{then-has_left+else-differs_in, else-has_left}

pub loop-i-init : goal.loop-i-init
loop-i-init c = (search rules, search (looking_start, rules))

pub returns-then-differs_in : goal.returns-then-differs_in
returns-then-differs_in c = let o = c.loop-i in
    looking_found o.invariant.1 (o.i + 4) c.differs_in.ensures (search rules) (search rules) c.if-differs_in.true

pub loop-i-preserved : goal.loop-i-preserved
loop-i-preserved c = let o = c.loop-i in
    let l : o.i + 4 ≤ c.args.n = search rules in (
      l,
      elim c.if-has_left.branch [
        | then-has_left+else-differs_in w ↦ looking_on o.invariant.1 (o.i + 4) w.differs_in.ensures (search rules) l w.if-differs_in.false
        | else-has_left w ↦ looking_on o.invariant.1 (o.i + 4) (left_differs _ _ _ _ (sym c.has_left.ensures ∙ w.if-has_left.false)) (search rules) l refl
      ],
    )

pub returns : goal.returns
returns c = c.differs_in-2.ensures ∙ c.loop-i.invariant.1.is
