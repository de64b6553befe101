-- `differs_in` meets its contract: two keys at a time. Assumes nothing.
use borrow.Author.Rules.{rules}
use borrow.Author.Tests.{tests}
use lib.Dec.{eqb}
use lib.Seq.{slice}
use mathlib.Core.Bool.{not, ◌&&◌}
use mathlib.Core.Path.{◌∙◌}
use Prim.Native.Nat.{ℕ}
use Rattle.std.proofs.lemmas.Iterator.{YieldsList-from_slice, YieldsList-from_zip}
use Rattle.std.proofs.lemmas.Iterator.Search.{any_from_yields_List}
use Rattle.meaning.proofs.Lists.Ranges.{part_slice}
use Rattle.depends.proofs.KeySearch.{zipped}
use Rattle.depends.proofs.differs_in.Goals as goal

pub returns : goal.returns
returns c =
    let xs = slice c.args.from c.args.to c.args.lefts.now in
    let ys = slice c.args.from c.args.to c.args.rights.now in
    let p = part_slice c.args.from c.args.to c.args.lefts.now c.requires.0 in
    let q = part_slice c.args.from c.args.to c.args.rights.now c.requires.0 in
    any_from_yields_List (λ (p : ℕ × ℕ). eqb p.0 c.args.left && not (eqb p.1 c.args.right)) c.any.new.self _ c.any.result c.any.ensures.ran
    (YieldsList-from_zip (YieldsList-from_slice xs (search (rules, p))) (YieldsList-from_slice ys (search (rules, q)))) (λ x b q k. search (rules, tests))
    ∙ zipped c.args.left c.args.right xs ys
