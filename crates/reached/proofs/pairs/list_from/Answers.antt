-- `reached::pairs::list_from` meets its contract. Assumes nothing.
use native.Mathlib.Omega.{arith}
use Prim.Native.Nat.{◌*◌, ◌+◌}
use Rattle.meaning.specs.Limits.{named_words}
use Rattle.reached.proofs.Listing.{alive_not, listed_dead, listed_from}
use Rattle.worklist.proofs.Growth.{cleared_none, same_start}
use Rattle.reached.proofs.pairs.list_from.Goals as goal

pub returns-then-not-has : goal.returns-then-not-has
returns-then-not-has c = let pre = c.requires in (
  listed_dead pre.0.fits pre.0.nodes pre.0.living pre.1 (alive_not _ _ _ c.has.ensures c.if-not-has.true)
      pre.3,
  pre.2,
  same_start,
)

pub returns : goal.returns
returns c = (
  listed_from c.requires.0.fits c.requires.0.nodes c.walk.ensures.0 c.requires.1 _ c.list_ends-listed.result c.requires.3
      c.list_ends-listed.ensures,
  (
    cleared_none ((c.args.lists.now.sizes.parts + 1) * named_words * 64) c.walk.ensures.2
        (let a = c.clear_words.auto.table in let b = c.walk.ensures.1 in omega arith)
        (λ x l e. let a = c.walk.ensures.0.within x l e in omega arith) c.clear_words.ensures,
    c.walk.ensures.3,
  ),
  record { is = c.walk.ensures.4.is },
)
