-- `yes_no::yes_no` meets its contract. Assumes nothing.
use mathlib.Core.Bool.{not}
use mathlib.Core.Path.{refl, ap}
use Rattle.std.proofs.Common.{rules}
use Rattle.calls.proofs.Meets.{ran, refused_1}
use Rattle.calls.proofs.Tested.{passed}
use Rattle.yes_no.proofs.yes_no.Goals as goal

pub returns-then-not-long_enough : goal.returns-then-not-long_enough
returns-then-not-long_enough c =
    let t = c.long_enough in
    refused_1 tt t.result t.ensures (ap not c.if-not-long_enough.true) refl (refl, (refl, (refl, (refl, (refl, (refl, (refl, (refl, tt))))))))

pub answer-said-requires : goal.answer-said-requires
answer-said-requires c = passed c.long_enough.result c.long_enough.ensures (ap not c.if-not-long_enough.false)

pub returns : goal.returns
returns c =
    let t = c.long_enough in
    ran tt t.result t.ensures (ap not c.if-not-long_enough.false) c.answer-said.ensures
    (search rules, (search rules, (search rules, (search rules, (search rules, tt)))))
