-- `node_list::core_node` meets its contract. Assumes nothing.
use Rattle.std.proofs.Common.{arith}
use Rattle.node_list.proofs.Written.{iri_numbers_lem, literal_numbers_lem}
use Rattle.node_list.proofs.core_node.Goals as goal

pub returns-then-key-ge-FIRST_LITERAL : goal.returns-then-key-ge-FIRST_LITERAL
returns-then-key-ge-FIRST_LITERAL c = let s = c.args in literal_numbers_lem s.arities s.key s.mask c.if-key-ge-FIRST_LITERAL.true

pub returns : goal.returns
returns c = let s = c.args in
    iri_numbers_lem s.arities s.key s.mask (omega arith) _ _ _ _ c.argument-first.ensures c.argument-second.ensures c.argument-third.ensures
    c.argument-fourth.ensures
