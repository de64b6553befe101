use Rattle.matching.proofs.HeadKey.{Making}
use Rattle.matching.proofs.keys.head_key.Given as goal

abbrev pub invariant-loop-v : goal.invariant-loop-v
invariant-loop-v l = Making l.vars l.env l.v-index l.key
