-- `alive::some_alive` meets its contract. Assumes nothing.
use native.Mathlib.Omega.{arith}
use Prim.Native.Nat.{◌-◌}
use Rattle.alive.proofs.Blocks.{none_before, some_here}
use Rattle.alive.proofs.some_alive.Goals as goal

pub loop-block-init : goal.loop-block-init
loop-block-init c = λ k l h e. omega arith

pub returns-then-alive-parts-ne0 : goal.returns-then-alive-parts-ne0
returns-then-alive-parts-ne0 c = let t = c.loop-block-test.true in
    let e = c.div_ceil-block-end.ensures in
    let n = c.requires.0.0 in
    some_here c.args.alive.now c.args.nodes (c.args.parts - 1) c.loop-block.block c.real_nodes.result
    (omega arith) c.real_nodes.ensures (c.type_inv.alive _).fits c.if-alive-parts-ne0.true

pub loop-block-preserved : goal.loop-block-preserved
loop-block-preserved c = let t = c.loop-block-test.true in
    let e = c.div_ceil-block-end.ensures in
    let n = c.requires.0.0 in
    none_before c.args.alive.now c.args.nodes (c.args.parts - 1) c.loop-block.block c.real_nodes.result
    (omega arith) c.real_nodes.ensures c.if-alive-parts-ne0.false c.loop-block.invariant

pub returns : goal.returns
returns c = let t = c.loop-block-test.false in
    let d = c.div_ceil-block-end.ensures in
    λ k l e. c.loop-block.invariant k l (omega arith) e
