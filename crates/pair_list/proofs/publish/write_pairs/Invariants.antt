use Rattle.pair_list.proofs.Publishing.{Publishing}
use Rattle.pair_list.proofs.publish.write_pairs.Given as goal

abbrev pub invariant-loop-i : goal.invariant-loop-i
invariant-loop-i l = Publishing l.found l.i l.initial.pairs l.pairs
