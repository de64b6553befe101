-- `write_byte` meets its contract: its stores leave the byte's spelling. Assumes nothing.
use mathlib.Core.Path.{sym, ◌∙◌}
use native.Mathlib.Omega.{arith}
use Rattle.spelling.proofs.Written.{one_long, three_long, stays_written, escaped_written}
use Rattle.spelling.proofs.write.write_byte.Goals as goal

pub bounds-dst-at : goal.bounds-dst-at
bounds-dst-at c = omega (arith, one_long c.args.b (sym c.stays.ensures ∙ c.if-stays.true))

pub overflow_add-result : goal.overflow_add-result
overflow_add-result c = omega (arith, one_long c.args.b (sym c.stays.ensures ∙ c.if-stays.true))

pub returns-then-stays : goal.returns-then-stays
returns-then-stays c = stays_written c.args.b c.args.at c.args.dst.now c.requires (sym c.stays.ensures ∙ c.if-stays.true)

pub slice_bounds-copy_from_slice-end : goal.slice_bounds-copy_from_slice-end
slice_bounds-copy_from_slice-end c = omega (arith, three_long c.args.b (sym c.stays.ensures ∙ c.if-stays.false))

pub returns : goal.returns
returns c = escaped_written c.args.b c.args.at c.args.dst.now c.requires (sym c.stays.ensures ∙ c.if-stays.false) c.hex_digit.ensures c.hex_digit-2.ensures c.copy_from_slice.ensures.after
