use Rattle.depends.specs.Answer.{dependency_of}
use Rattle.depends.proofs.Listing.{Rows}
use Rattle.depends.proofs.some_break.Given as goal

abbrev pub invariant-loop-i : goal.invariant-loop-i
invariant-loop-i l = Rows (dependency_of l.d) l.rows l.lefts l.rights l.count l.n l.i
