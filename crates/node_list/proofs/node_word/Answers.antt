-- `node_list::node_word` meets its contract. Assumes nothing.
use Rattle.std.proofs.Common.{arith}
use Rattle.node_list.proofs.SetList.{first_word, later_word}
use Rattle.node_list.proofs.node_word.Goals as goal

pub returns-then-w-ne0 : goal.returns-then-w-ne0
returns-then-w-ne0 c = later_word c.args.flags.now c.args.w c.if-w-ne0.true

pub returns : goal.returns
returns c = let args = c.args in first_word args.flags.now args.w (omega (arith, c.if-w-ne0.false))
