-- `clash::clash_records` meets its contract. Assumes nothing.
use mathlib.Core.Path.{refl}
use native.Mathlib.Omega.{arith}
use Prim.Native.Nat.{◌+◌}
use Rattle.clash.proofs.ClashRecords.{clash_written, first_at, object_place, second_at, subject_place}
use Rattle.meaning.proofs.Lists.Overwriting.{written_as}
use Rattle.clash.proofs.clash_records.Goals as goal

pub record_at-requires : goal.record_at-requires
record_at-requires c = (c.requires.0, subject_place c.args.core.now.fits c.args.i (omega (arith, c.requires.1)))

pub record_at-requires-2 : goal.record_at-requires-2
record_at-requires-2 c = (c.requires.0, object_place c.args.core.now.fits c.args.i (omega (arith, c.requires.1)))

pub record_at-requires-3 : goal.record_at-requires-3
record_at-requires-3 c = (c.requires.0, object_place c.args.core.now.fits (c.args.i + 1) c.requires.1)

pub returns : goal.returns
returns c = λ P table I ar x. clash_written I c.args.arities ar _ _ _ _ refl
    (written_as 0 _ _ _ _ c.write_record.ensures c.record_at.ensures)
    (written_as first_at _ _ _ _ c.write_record-2.ensures c.record_at-2.ensures)
    (written_as second_at _ _ _ _ c.write_record-3.ensures c.record_at-3.ensures) x
