-- `backward::mark_part` meets its contract. Assumes nothing.
use native.Mathlib.Omega.{arith}
use Rattle.backward.proofs.Backward.{part_leaf, part_none, part_turns}
use Rattle.backward.proofs.mark_part.Goals as goal

pub mark_word-requires : goal.mark_word-requires
mark_word-requires c = let s = c.requires.1.0.0.short in
    let b = c.requires.1.1.0 in
    (_, omega arith, c.requires.1.1.1)

pub returns-then-kind-ge-NESTED : goal.returns-then-kind-ge-NESTED
returns-then-kind-ge-NESTED c = let s = c.requires.1.0.0.short in
    let b = c.requires.1.1.0 in
    let e = c.kind_of-kind.ensures in
    let k = c.if-kind-ge-NESTED.true in
    part_turns (omega arith) c.requires.1.1.0 _ c.turned.ensures (c.mark_word.ensures _ (omega arith) c.requires.1.1.1)

pub returns-then-lists-i : goal.returns-then-lists-i
returns-then-lists-i c = let k = c.if-kind-ge-NESTED.false in
    part_leaf c.kind_of-kind.result c.kind_of-kind.ensures (omega arith) c.if-lists-i.true c.mark_leaf.ensures

pub returns-else-lists-i : goal.returns-else-lists-i
returns-else-lists-i c = let e = c.kind_of-kind.ensures in
    let k = c.if-kind-ge-NESTED.false in
    part_none (omega arith) c.if-lists-i.false c.requires.1.1.1
