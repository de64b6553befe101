-- `calls::long_enough` meets its contract: the lengths are compared two by two. Assumes nothing.
use borrow.Author.Rules.{rules}
use lib.Dec.{leb}
use Prim.Native.Nat.{ℕ}
use Rattle.calls.proofs.Lengths.{compared}
use Rattle.std.proofs.Common.{tests}
use Rattle.std.proofs.lemmas.Iterator.Search.{all_from_yields_List}
use Rattle.std.proofs.lemmas.Iterator.{YieldsList-from_slice, YieldsList-from_zip}
use Rattle.calls.proofs.long_enough.Goals as goal

pub returns : goal.returns
returns c =
    let a = c.args in
    compared a.asked.now a.lent.now c.requires
    (all_from_yields_List (λ (p : ℕ × ℕ). leb p.0 p.1) c.all.new.self _ c.all.result c.all.ensures.ran
    (YieldsList-from_zip (YieldsList-from_slice a.asked.now cc) (YieldsList-from_slice a.lent.now cc)) (λ x b q k. search (rules, tests)))
