-- `resolve::resolve` meets its contract: the parts before i are written. Assumes nothing.
use lib.ListN.{length}
use mathlib.Core.Path.{◌∙◌, ap}
use native.Mathlib.Omega.{arith}
use Prim.Native.Nat.{min, ◌<◌, ◌+◌}
use Rattle.query.specs.Tree.{first_number, second_number}
use Rattle.resolve.proofs.Filling.{Cut, cut_label, filled_on}
use Rattle.resolve.proofs.resolve.Goals as goal

pub loop-i-preserved : goal.loop-i-preserved
loop-i-preserved c =
    let s = c.args in
    let i = c.loop-i.i in
    -- part i has a place in the list, and its text is cut from the query
    let in_wanted : i < length s.wanted.now = omega (arith, c.requires.3) in
    let cut : Cut s.query.now (first_number s.tree.now i) (second_number s.tree.now i) c.min-start.result c.min-end.result = record {
      start_is = c.min-start.ensures ∙ ap (λ a. min a (length s.query.now)) c.first_number.ensures;
      end_is = c.min-end.ensures ∙ ap (λ k. min (c.min-start.result + k) (length s.query.now)) c.second_number.ensures;
    } in
    rw c.unwrap_or.ensures (filled_on c.loop-i.invariant in_wanted _ _ (cut_label cut) c.kind_of.ensures c.number_wanted.ensures)
