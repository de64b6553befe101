-- `fits` meets its contract: in its loop, what is left of the room is held to what is left of the segment. Assumes nothing.
use borrow.Author.Rules.{rules}
use Rattle.spelling.proofs.Written.{room_start, room_again, room_over, room_done}
use Rattle.spelling.proofs.write.fits.Goals as goal

pub loop-b-init : goal.loop-b-init
loop-b-init c = room_start _ _

pub returns-then-left-n : goal.returns-then-left-n
returns-then-left-n c = search (room_over, rules)

pub loop-b-preserved : goal.loop-b-preserved
loop-b-preserved c = search (room_again, rules)

pub returns : goal.returns
returns c = search (room_done, rules)
