-- `pairs::pairs` meets its contract. Assumes nothing.
use Rattle.std.proofs.Common.{refl, ap, not}
use Rattle.calls.proofs.Meets.{refused_1}
use Rattle.pairs.proofs.pairs.Goals as goal

pub returns-then-not-long_enough : goal.returns-then-not-long_enough
returns-then-not-long_enough c =
    let t = c.long_enough in
    refused_1 tt t.result t.ensures (ap not c.if-not-long_enough.true) refl
    (refl, (refl, (refl, (refl, (refl, (refl, (refl, (refl, (refl, (refl, (refl, (refl, (refl, tt)))))))))))))
