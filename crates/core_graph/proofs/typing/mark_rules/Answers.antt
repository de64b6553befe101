-- `core_graph::typing::mark_rules` meets its contract: those of the rules so far. Assumes nothing.
use borrow.Author.Rules.{rules}
use native.Mathlib.Omega.{arith}
use Rattle.std.specs.Prelude.{◌<◌}
use Rattle.core_graph.proofs.Marking.{all_start, all_again, all_done}
use Rattle.core_graph.proofs.typing.mark_rules.Goals as goal

pub loop-r-init : goal.loop-r-init
loop-r-init c = (search rules, all_start _ _ _ _ _)

pub offset_bounds-heads-r : goal.offset_bounds-heads-r
offset_bounds-heads-r c = omega (arith, c.args.heads.now.fit.few)

pub bounds-heads-r : goal.bounds-heads-r
bounds-heads-r c = omega (arith, c.args.heads.now.fit.few)

pub mark_rule-requires : goal.mark_rule-requires
mark_rule-requires c = let l = c.loop-r in
    let fit = c.args.heads.now.fit in
    let h : l.r < c.args.heads.now.count = omega arith in (
      fit.fits l.r h,
      rw c.keys_of.ensures (fit.keys l.r h),
      c.requires.0,
      rw c.keys_of.ensures (c.requires.1 l.r h),
      omega (arith, c.requires.2, l.invariant.1.long),
    )

pub loop-r-preserved : goal.loop-r-preserved
loop-r-preserved c = let loop = c.loop-r in
    let a = c.mark_rule in
    (omega arith, all_again loop.invariant.1 _ (rw c.keys_of.ensures at a.ensures) a.auto.masks)

pub returns : goal.returns
returns c = all_done c.loop-r.invariant.1 (omega arith)
