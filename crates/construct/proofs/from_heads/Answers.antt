-- `construct::from_heads` meets its contract. Assumes nothing.
use Rattle.std.proofs.Common.{refl, arith}
use Rattle.construct.proofs.FromHeads.{Cored, core_ready, input, small_answer}
use Rattle.core_lists.proofs.Places.{input_placed}
use Rattle.construct.proofs.from_heads.Goals as goal
use Rattle.construct.proofs.from_heads.Goals.{After-core}

-- ---- what the core answered

cored : (c : After-core) → Cored c.args.setting.now.counts c.args.setting.now.numbers.now c.args.found c.args.heads.now c.shape_table-shapes.result c.head_table.result
    c.core.new.nodes c.core.new.triples c.core.new.masks c.core.result
cored c = record {
  tables = record { shapes = c.shape_table-shapes.ensures; heads = c.head_table.ensures };
  answer = c.core.ensures;
  room = c.core.auto.nodes;
  space = c.core.auto.triples;
}

pub invariant_of-found_heads : goal.invariant_of-found_heads
invariant_of-found_heads c = let p = c.requires in
    record { fit = (core_ready (record { shapes = c.shape_table-shapes.ensures; heads = c.head_table.ensures }) p.0 p.1).1 }

pub core-requires : goal.core-requires
core-requires c = let p = c.requires in
    ((core_ready (record { shapes = c.shape_table-shapes.ensures; heads = c.head_table.ensures }) p.0 p.1).0, refl, refl, omega arith, refl)

pub invariant_of-core : goal.invariant_of-core
invariant_of-core c = let i = input (cored (goal.at.invariant_of-core c).After-core) c.in-Ok.is c.requires.0.is in
    record { fits = input_placed i }

pub from_core-requires : goal.from_core-requires
from_core-requires c = let p = c.requires in
    let i = input (cored (goal.at.from_core-requires c).After-core) c.in-Ok.is p.0.is in
    (record { pack = p.0.pack; input = i; arity = c.arities.ensures p.0.pack p.0.is.given }, p.2, p.3, p.4)

pub returns : goal.returns
returns c = small_answer (cored (goal.at.returns c).After-core) c.in-Ok.is c.arities.ensures c.from_core.ensures
