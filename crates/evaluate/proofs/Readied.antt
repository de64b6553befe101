-- What the functions of a query's evaluation ask, from what a call has ready. Assumes nothing.
use Rattle.std.proofs.Common.{ℕ, ◌≤◌, List, length, arith}
use Rattle.evaluate.specs.Answered.{Ready}
use Rattle.meaning.specs.Limits.{max_parts}
use Rattle.meaning.specs.Pack.{Text}
use Rattle.walk.specs.Threading.{Threadable}

module _ {pack query : Text} {tree : List ℕ} {parts : ℕ} {wanted nodes : List ℕ} {count : ℕ} {triples : List ℕ} {edges : ℕ}
    (ready : Ready pack query tree parts wanted nodes count triples edges) where
  pub parts_few : parts ≤ max_parts
  parts_few = let a = ready.held.few in let b = ready.held.query.fits in omega arith

  pub threadable : {next : List ℕ} → max_parts ≤ length next → Threadable tree next parts
  threadable l = record { text = query; held = ready.held; parts = ready.room; room = let a = parts_few in omega arith }
