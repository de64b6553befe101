use Prim.Native.Nat.{◌-◌}
use Rattle.load.proofs.Loading.{Loading}
use Rattle.load.proofs.load_body.Given as goal

abbrev pub invariant-loop-c : goal.invariant-loop-c
invariant-loop-c l = Loading l.kind l.initial.c l.limit l.initial.out l.out l.n l.at l.c

abbrev pub decreases-loop-c : goal.decreases-loop-c
decreases-loop-c l = l.c.end - l.c.at
