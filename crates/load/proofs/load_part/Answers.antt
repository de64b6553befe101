-- `load_part` meets its contract. Assumes nothing.
use native.Mathlib.Omega.{arith}
use Rattle.load.proofs.LoadedBody.{part_room, part_shown}
use Rattle.pack.proofs.Sizes.{size_is}
use Rattle.load.proofs.load_part.Goals as goal

pub load_body-requires : goal.load_body-requires
load_body-requires c = let l = c.layout-kind.ensures in
    (rw c.body.ensures.bytes (size_is _ c.requires.0).short, part_room c.args.i l.0 l.1 l.2 c.args.out.now c.requires.2)

pub returns : goal.returns
returns c = let l = c.layout-kind.ensures in
    let room = part_room c.args.i l.0 l.1 l.2 c.args.out.now c.requires.2 in
    part_shown c.args.i l.0 l.1 l.2 c.args.out.now c.requires.2 c.body.ensures
    c.load_body.new.out _ (omega (arith, c.load_body.auto, room)) c.load_body.result c.load_body.ensures
