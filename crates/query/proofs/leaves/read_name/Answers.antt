-- `query::leaves::read_name` meets its contract. Assumes nothing.
use native.Mathlib.Omega.{arith}
use lib.ListN.{length-drop, drop}
use Rattle.grammar.proofs.Bytes.{run_le}
use Rattle.query.specs.Reading.{class}
use Rattle.query.proofs.LeafLaws.{name_short, name_long, name_stored}
use Rattle.query.proofs.leaves.read_name.Goals as goal

pub returns-then-size-eq0 : goal.returns-then-size-eq0
returns-then-size-eq0 c =
    let a = c.args in
    name_short a.q.now a.tree.now a.at a.n c.run_end-end.result c.run_end-end.ensures c.requires.within c.if-size-eq0.true

pub returns-then-size-gt-MAX_NAME_BYTES : goal.returns-then-size-gt-MAX_NAME_BYTES
returns-then-size-gt-MAX_NAME_BYTES c =
    let a = c.args in
    name_long a.q.now a.tree.now a.at a.n c.run_end-end.result c.run_end-end.ensures c.requires.within c.if-size-gt-MAX_NAME_BYTES.true

pub pack-requires : goal.pack-requires
pack-requires c =
    let a = c.args in
    let r = run_le (class 2) (drop a.at a.q.now) in
    let d = length-drop a.at a.q.now in
    omega arith

pub bounds-tree-n : goal.bounds-tree-n
bounds-tree-n c =
    let a = c.args in
    let r = run_le (class 2) (drop a.at a.q.now) in
    let d = length-drop a.at a.q.now in
    omega arith

pub returns : goal.returns
returns c =
    let a = c.args in
    name_stored a.q.now a.tree.now a.at a.n c.run_end-end.result c.run_end-end.ensures c.pack.result c.requires
    c.if-size-eq0.false c.if-size-gt-MAX_NAME_BYTES.false c.pack.ensures
