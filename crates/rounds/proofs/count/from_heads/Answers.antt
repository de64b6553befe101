-- `rounds::count::from_heads` is safe. Assumes nothing.
use Rattle.std.proofs.Common.{refl}
use Rattle.construct.proofs.FromHeads.{core_ready, setting_given, setting_resolved}
use Rattle.rounds.proofs.count.from_heads.Goals as goal

pub shape_table-shapes-requires : goal.shape_table-shapes-requires
shape_table-shapes-requires c = setting_resolved c.requires.0

pub head_table-requires : goal.head_table-requires
head_table-requires c = setting_given c.requires.0

pub invariant_of-found_heads : goal.invariant_of-found_heads
invariant_of-found_heads c = let p = c.requires in
    record { fit = (core_ready (record { shapes = c.shape_table-shapes.ensures; heads = c.head_table.ensures }) p.0 p.1).1 }

pub core-requires : goal.core-requires
core-requires c = let p = c.requires in
    ((core_ready (record { shapes = c.shape_table-shapes.ensures; heads = c.head_table.ensures }) p.0 p.1).0, refl, refl, refl, refl)
