-- `clash::clashes` meets its contract. Assumes nothing.
use Rattle.clash.proofs.ClashLaws.{same_clashes}
use Rattle.clash.proofs.clashes.Goals as goal

pub returns-then-triples-i : goal.returns-then-triples-i
returns-then-triples-i c = λ e. absurd (c.if-triples-i.true e)

pub returns : goal.returns
returns c = same_clashes c.args.shapes.now c.args.triples.now c.args.masks.now c.args.i c.limited.result c.if-triples-i.false c.limited.ensures
