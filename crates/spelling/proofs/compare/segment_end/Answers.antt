-- `segment_end` meets its contract: in its loop, what is left of the segment matches where the whole does. Assumes nothing.
use borrow.Author.Rules.{rules}
use Rattle.spelling.proofs.MatchedAt.{matching_start, matching_again, matching_over, matching_done}
use Rattle.spelling.proofs.compare.segment_end.Goals as goal

pub loop-b-init : goal.loop-b-init
loop-b-init c = matching_start _ _ _

pub returns-in_err-to : goal.returns-in_err-to
returns-in_err-to c = search (matching_over, rules)

pub loop-b-preserved : goal.loop-b-preserved
loop-b-preserved c = search (matching_again, rules)

pub returns : goal.returns
returns c = search (matching_done, rules)
