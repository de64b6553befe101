-- `all_heads` meets its contract: the keys of the first rules are listed. Assumes nothing.
use Rattle.std.proofs.Common.{sym, refl, ◌∙◌, arith, length-take-le}
use Rattle.std.proofs.lemmas.Result.{err_from_is_err_and}
use Rattle.names.proofs.Cells.{rows_long}
use Rattle.names.proofs.Rule.{rules_few}
use Rattle.rule_heads.proofs.Collecting.{collecting_done, collecting_on, collecting_over, collecting_start, is_rule_of, over}
use Rattle.rule_heads.proofs.all_heads.Goals as goal

pub loop-r-init : goal.loop-r-init
loop-r-init c = (refl, collecting_start _ _ _ _ _ refl)

pub slice_bounds-heads_of-end : goal.slice_bounds-heads_of-end
slice_bounds-heads_of-end c = let g = c.requires.0.is.given in
    sym (length-take-le _ _ (omega (arith, rows_long g, g.many)))

pub heads_of-requires : goal.heads_of-requires
heads_of-requires c = let s = c.requires in
    (is_rule_of s.0 _ c.loop-r-test.true, omega (arith, s.2, c.loop-r.invariant.0))

pub returns-in_err-n : goal.returns-in_err-n
returns-in_err-n c = let k = c.heads_of in
    let i = c.loop-r.invariant in
    let s = c.requires in
    let few = rules_few s.0.is.given.setting in
    rw (err_from_is_err_and c.from_residual.result c.from_residual.ensures.1).1
    (over refl c.loop-r-test.true (collecting_over i.1 c.loop-r-test.true few s.1 k.new.keys k.auto.keys c.in_err-n.ensures))

pub loop-r-preserved : goal.loop-r-preserved
loop-r-preserved c = let k = c.heads_of in
    let i = c.loop-r.invariant in
    let s = c.requires in
    let few = rules_few s.0.is.given.setting in (
      k.auto.work ∙ i.0,
      collecting_on i.1 c.loop-r-test.true few s.1 k.new.keys k.auto.keys (is_rule_of s.0 _ c.loop-r-test.true) _
          c.in_ok-n.ensures,
    )

pub returns : goal.returns
returns c = collecting_done refl c.loop-r.invariant.1 (rules_few c.requires.0.is.given.setting) c.loop-r-test.false
