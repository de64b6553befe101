-- `contents::word` meets its contract. Assumes nothing.
use native.Mathlib.Omega.{arith}
use Rattle.pack.specs.Contents.{word}
use Rattle.pack.proofs.contents.word.Goals as goal

pub returns : goal.returns
unfolding word
returns c = (omega (arith, c.from_le_bytes.ensures), c.from_le_bytes.type_inv)
