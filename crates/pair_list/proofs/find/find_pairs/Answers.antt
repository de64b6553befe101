-- `pair_list::find::find_pairs` meets its contract. Assumes nothing.
use native.Mathlib.Omega.{arith}
use Rattle.evaluate.proofs.Started.{cleared, unseen}
use borrow.Author.Rules.{rules}
use Rattle.pair_list.proofs.find.find_pairs.Goals as goal

pub pairs-requires : goal.pairs-requires
pairs-requires c =
    let (ready, indexed, (alive, waiting, stack, seen), room) = c.requires in (
      ready,
      indexed,
      cleared c.args.alive.now c.args.waiting.now (search rules) (search rules) alive waiting stack,
      record { long = omega arith; none = unseen c.args.seen.now (search rules) seen },
      room,
    )
