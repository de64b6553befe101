-- `worklist::clear_words` meets its contract. Assumes nothing.
use borrow.Author.Rules.{rules}
use Rattle.worklist.proofs.Worklist.{words_cleared}
use Rattle.worklist.proofs.clear_words.Goals as goal

pub returns : goal.returns
returns c = words_cleared _ _ _ (search rules)
