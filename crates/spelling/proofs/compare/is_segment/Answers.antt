-- `is_segment` meets its contract. Assumes nothing.
use borrow.Author.Rules.{rules}
use Rattle.spelling.proofs.MatchedAt.{not_same, same_whole}
use Rattle.spelling.proofs.compare.is_segment.Goals as goal

pub returns-in-None : goal.returns-in-None
returns-in-None c = search (not_same, rules)

pub returns-in-Some : goal.returns-in-Some
returns-in-Some c = search (same_whole, rules)
