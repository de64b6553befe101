-- `build::build` meets its contract. Assumes nothing.
use Rattle.std.proofs.Common.{rules, not, refl, ap, arith}
use Rattle.calls.proofs.Meets.{ran, refused_1}
use Rattle.calls.proofs.Tested.{passed}
use Rattle.std.proofs.lemmas.Result.{err_from_is_err_and}
use Rattle.build.proofs.build.Goals as goal

pub returns-then-not-long_enough : goal.returns-then-not-long_enough
returns-then-not-long_enough c =
    refused_1 tt c.long_enough.result c.long_enough.ensures (ap not c.if-not-long_enough.true) refl (refl, (refl, (refl, (refl, (refl, tt)))))

pub construct-made-requires : goal.construct-made-requires
construct-made-requires c =
    let l = passed c.long_enough.result c.long_enough.ensures (ap not c.if-not-long_enough.false) in
    (l.0, l.1.0, l.1.1.0, l.1.1.1.0, l.1.1.1.1.0, omega arith)

pub returns-in_err-made : goal.returns-in_err-made
returns-in_err-made c =
    let p = err_from_is_err_and c.from_residual.result c.from_residual.ensures.1 in
    rw (p.1, p.2) (ran tt c.long_enough.result c.long_enough.ensures (ap not c.if-not-long_enough.false) c.in_err-made.ensures.0 (search rules, (search rules, tt)))

pub returns : goal.returns
returns c =
    ran tt c.long_enough.result c.long_enough.ensures (ap not c.if-not-long_enough.false) c.in_ok-made.ensures.0 (search rules, (search rules, tt))
