-- `pair_list::publish::write_pairs` meets its contract: in its loop, the pairs before are written. Assumes nothing.
use Rattle.pair_list.proofs.Publishing.{publishing_again, publishing_start, small_at}
use Rattle.pair_list.proofs.publish.write_pairs.Goals as goal

pub loop-i-init : goal.loop-i-init
loop-i-init c = publishing_start

pub pair_from-requires : goal.pair_from-requires
pair_from-requires c = small_at _ _ c.requires.2 c.loop-i-test.true

pub loop-i-preserved : goal.loop-i-preserved
loop-i-preserved c = publishing_again c.requires.0 c.requires.1 c.loop-i-test.true c.loop-i.invariant c.pair_from.ensures c.pair_to.ensures
