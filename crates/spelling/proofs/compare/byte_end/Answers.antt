-- `byte_end` meets its contract, return by return. Assumes nothing.
use mathlib.Core.Path.{sym, ◌∙◌}
use Rattle.spelling.proofs.MatchedAt.{byte_past, byte_same, escape_same}
use Rattle.spelling.proofs.compare.byte_end.Goals as goal

pub returns-in_err-rest : goal.returns-in_err-rest
returns-in_err-rest c = rw c.from_residual.ensures (byte_past c.args.b c.args.text.now c.args.at c.in_err-rest.ensures.lookup.0)

pub returns-then-stays : goal.returns-then-stays
returns-then-stays c =
    c.then_some.ensures ∙ byte_same c.args.b c.args.text.now c.args.at c.in_ok-rest.ensures.lookup.0.2 (sym c.stays.ensures ∙ c.if-stays.true) c.starts_with.ensures.value

pub returns : goal.returns
returns c =
    c.then_some-2.ensures
    ∙ escape_same c.args.b c.args.text.now c.args.at c.in_ok-rest.ensures.lookup.0.2 (sym c.stays.ensures ∙ c.if-stays.false) c.hex_digit.ensures c.hex_digit-2.ensures
    c.starts_with-2.ensures.value
