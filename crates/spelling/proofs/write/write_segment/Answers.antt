-- `write_segment` meets its contract: in its loop, writing what is left of the segment gives the whole. Assumes nothing.
use borrow.Author.Rules.{rules}
use Rattle.std.proofs.Common.{ap, not}
use native.Mathlib.Omega.{arith}
use Rattle.spelling.proofs.Written.{writing_room, writing_again, no_place, fits_not, fits_start, fits_done}
use Rattle.spelling.specs.Segment.{segment}
use Rattle.spelling.proofs.write.write_segment.Goals as goal

pub returns-then-dst-at : goal.returns-then-dst-at
returns-then-dst-at c = no_place (segment c.args.value.now) c.args.at c.args.dst.now c.if-dst-at.true

pub returns-then-not-fits : goal.returns-then-not-fits
returns-then-not-fits c = fits_not c.args.value.now c.args.at c.args.dst.now c.if-dst-at.false _ c.fits.ensures (ap not c.if-not-fits.true)

pub loop-b-init : goal.loop-b-init
loop-b-init c = search (fits_start, rules)

pub write_byte-to-requires : goal.write_byte-to-requires
write_byte-to-requires c = search (writing_room, rules)

pub loop-b-preserved : goal.loop-b-preserved
loop-b-preserved c = search (writing_again, rules)

pub returns : goal.returns
returns c = fits_done c.args.value.now c.args.at c.args.dst.now c.if-dst-at.false _ c.fits.ensures (ap not c.if-not-fits.false) c.loop-b.invariant
    (omega arith)
