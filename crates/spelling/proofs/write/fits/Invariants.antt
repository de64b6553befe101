use Rattle.spelling.proofs.Written.{Room}
use Rattle.spelling.proofs.write.fits.Given as goal

abbrev pub invariant-loop-b : goal.invariant-loop-b
invariant-loop-b l = Room l.value l.room l.b-index l.left
