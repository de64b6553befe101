-- `walk::thread_part` meets its contract. Assumes nothing.
use mathlib.Core.Path.{sym, ◌∙◌}
use native.Mathlib.Omega.{arith}
use Rattle.walk.proofs.Links.{test_before, repeat_before, chain_before, either_before, link_leaf, link_test, link_repeat, link_chain, link_either}
use Rattle.walk.proofs.thread_part.Goals as goal

pub overflow_sub-next : goal.overflow_sub-next
overflow_sub-next c = let h = test_before c.requires (sym c.kind_of-kind.ensures ∙ c.if-kind-eq-NESTED.true) in omega arith

pub returns-then-kind-eq-NESTED : goal.returns-then-kind-eq-NESTED
returns-then-kind-eq-NESTED c = link_test c.requires (sym c.kind_of-kind.ensures ∙ c.if-kind-eq-NESTED.true)

pub overflow_sub-next-then-kind-eq-STAR : goal.overflow_sub-next-then-kind-eq-STAR
overflow_sub-next-then-kind-eq-STAR c = let h = repeat_before c.requires (sym c.kind_of-kind.ensures ∙ c.if-kind-eq-STAR.true) in omega arith

pub returns-then-kind-eq-STAR : goal.returns-then-kind-eq-STAR
returns-then-kind-eq-STAR c = link_repeat c.requires (sym c.kind_of-kind.ensures ∙ c.if-kind-eq-STAR.true)

pub overflow_sub-next-then-kind-eq-SEQUENCE : goal.overflow_sub-next-then-kind-eq-SEQUENCE
overflow_sub-next-then-kind-eq-SEQUENCE c = let h = chain_before c.requires (sym c.kind_of-kind.ensures ∙ c.if-kind-eq-SEQUENCE.true) in omega arith

pub bounds-next-left : goal.bounds-next-left
bounds-next-left c = let h = chain_before c.requires (sym c.kind_of-kind.ensures ∙ c.if-kind-eq-SEQUENCE.true) in let e = c.first_number-left.ensures in omega arith

pub overflow_sub-next-then-kind-eq-SEQUENCE-2 : goal.overflow_sub-next-then-kind-eq-SEQUENCE-2
overflow_sub-next-then-kind-eq-SEQUENCE-2 c = let h = chain_before c.requires (sym c.kind_of-kind.ensures ∙ c.if-kind-eq-SEQUENCE.true) in omega arith

pub returns-then-kind-eq-SEQUENCE : goal.returns-then-kind-eq-SEQUENCE
returns-then-kind-eq-SEQUENCE c = link_chain c.requires (sym c.kind_of-kind.ensures ∙ c.if-kind-eq-SEQUENCE.true) c.first_number-left.result c.first_number-left.ensures

pub bounds-next-left-then-kind-eq-UNION : goal.bounds-next-left-then-kind-eq-UNION
bounds-next-left-then-kind-eq-UNION c = let h = either_before c.requires (sym c.kind_of-kind.ensures ∙ c.if-kind-eq-UNION.true) in let e = c.first_number-left.ensures in omega arith

pub overflow_sub-next-then-kind-eq-UNION : goal.overflow_sub-next-then-kind-eq-UNION
overflow_sub-next-then-kind-eq-UNION c = let h = either_before c.requires (sym c.kind_of-kind.ensures ∙ c.if-kind-eq-UNION.true) in omega arith

pub returns-then-kind-eq-UNION : goal.returns-then-kind-eq-UNION
returns-then-kind-eq-UNION c = link_either c.requires (sym c.kind_of-kind.ensures ∙ c.if-kind-eq-UNION.true) c.first_number-left.result c.first_number-left.ensures

pub returns-else-kind-eq-UNION : goal.returns-else-kind-eq-UNION
returns-else-kind-eq-UNION c =
    let k = c.kind_of-kind.ensures in
    link_leaf c.requires (λ e. c.if-kind-eq-NESTED.false (k ∙ e)) (λ e. c.if-kind-eq-STAR.false (k ∙ e)) (λ e. c.if-kind-eq-SEQUENCE.false (k ∙ e))
    (λ e. c.if-kind-eq-UNION.false (k ∙ e))
