-- `rules::all_bound` meets its contract: the variables decide. Assumes nothing.
use borrow.Author.Rules.{rules}
use borrow.Author.Tests.{tests}
use mathlib.Core.Path.{sym, ◌∙◌}
use lib.Seq.{slice}
use Prim.Native.Nat.{ℕ}
use Rattle.std.proofs.lemmas.Iterator.{YieldsList-from_slice}
use Rattle.std.proofs.lemmas.Iterator.Search.{all_from_yields_List}
use Rattle.meaning.proofs.Lists.Library.{every_all}
use Rattle.meaning.specs.Pack.{Atom}
use Rattle.meaning.specs.Tests.{any, elem}
use Rattle.meaning.proofs.Lists.Ranges.{part_slice}
use Rattle.names.proofs.rules.all_bound.Goals as goal

pub returns : goal.returns
returns c = λ as' a.
    let xs = slice c.args.from c.args.end c.args.numbers.now in
    let bound = λ (v : ℕ). any (λ (t : Atom). elem v t.variables) as' in
    let e = all_from_yields_List bound _ _ c.all.result c.all.ensures.ran
    (YieldsList-from_slice xs (c.iter.ensures.rest ∙ part_slice c.args.from c.args.end c.args.numbers.now c.requires.1)) (λ x b q k. search (rules, tests)) in
    e ∙ sym (every_all bound xs)
