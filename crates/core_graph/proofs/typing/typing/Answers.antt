-- `core_graph::typing::typing` meets its contract. Assumes nothing.
use Rattle.core_graph.proofs.AllPasses.{types_answer}
use Rattle.core_graph.proofs.typing.typing.Goals as goal

pub returns : goal.returns
returns c = let m = c.mark_rules in
    let p = c.spread in
    types_answer c.args.heads.now.fit c.args.nodes.now c.requires.2 c.args.triples.now c.args.masks.now c.requires.7 m.new.masks m.ensures c.args.shapes
    p.new.masks p.ensures.0 p.ensures.1
