-- `matching::rule_heads` meets its contract: what the search finds are the heads. Assumes nothing.
use native.Mathlib.Omega.{arith}
use Prim.Native.Nat.{zero-le}
use Rattle.matching.proofs.RuleAnswers.{grown_answers, over_answers, unmatched_answers, atoms_below, head_variables, few_rows_lem, atoms_bytes, plan, reaches}
use Rattle.matching.proofs.Matched.{start_bindings, heads_iff}
use borrow.Author.Rules.{rules}
use Rattle.std.proofs.lemmas.Result.{err_from_is_err_and}
use Rattle.std.specs.Prelude.{Ok}
use Rattle.sets.proofs.Slices.{given_back}
use Rattle.matching.specs.Rule.{RuleHeads}
use Rattle.matching.proofs.rule_heads.Goals as goal

pub all_orders-orders-requires : goal.all_orders-orders-requires
all_orders-orders-requires c = let pre = c.requires in (atoms_below pre.0.held (omega arith), omega (arith, pre.1))

pub fresh-start-requires : goal.fresh-start-requires
fresh-start-requires c = (c.all_orders-orders.ensures.0, (head_variables c.requires.0.held (omega arith)).below)

pub all_candidates-counts-requires : goal.all_candidates-counts-requires
all_candidates-counts-requires c = (
  atoms_below c.requires.0.held (omega arith),
  c.all_orders-orders.ensures.0,
  c.all_orders-orders.ensures.1,
  (start_bindings c.requires.0.held c.all_orders-orders.result c.fresh-start.ensures),
  atoms_bytes c.requires.0.held (omega arith),
  few_rows_lem c.requires.0.held (omega arith),
  omega (arith, c.requires.1, c.all_orders-orders.auto.out),
)

pub unmatched-requires : goal.unmatched-requires
unmatched-requires c = let pre = c.requires in
    (atoms_below pre.0.held (omega arith)).few

pub returns-then-unmatched : goal.returns-then-unmatched
returns-then-unmatched c = λ rows atoms vars h. unmatched_answers (heads_iff h c.all_orders-orders.ensures.1 c.fresh-start.ensures c.all_candidates-counts.ensures)
    (rw c.if-unmatched.true at c.unmatched.ensures) c.args.keys.now

pub add_heads-requires : goal.add_heads-requires
add_heads-requires c = (
  plan c.requires.0.held (omega arith) c.all_orders-orders.ensures.0 c.all_orders-orders.ensures.1
      (start_bindings c.requires.0.held c.all_orders-orders.result c.fresh-start.ensures) c.all_candidates-counts.ensures
      (omega (arith, c.requires.1, c.all_orders-orders.auto.out, c.all_candidates-counts.auto.out)),
  zero-le,
  (start_bindings c.requires.0.held c.all_orders-orders.result c.fresh-start.ensures),
  reaches c.requires.0.held (omega arith) c.all_orders-orders.ensures.0 c.all_orders-orders.ensures.1
      (start_bindings c.requires.0.held c.all_orders-orders.result c.fresh-start.ensures) c.all_candidates-counts.ensures
      (omega (arith, c.requires.1, c.all_orders-orders.auto.out, c.all_candidates-counts.auto.out)),
)

pub returns-in_err-add_heads : goal.returns-in_err-add_heads
returns-in_err-add_heads c = rw (err_from_is_err_and c.from_residual.result c.from_residual.ensures.1).1
    (λ rows atoms vars h. over_answers _ (heads_iff h c.all_orders-orders.ensures.1 c.fresh-start.ensures c.all_candidates-counts.ensures) (omega arith)
    (rw (c.empty-set.ensures.0, c.empty-set.ensures.1) at c.in_err-add_heads.ensures))

pub returns : goal.returns
returns c = let a = c.args in
    given_back (λ keys. RuleHeads (Ok c.add_heads.new.set.count) a.rows.now a.atoms a.atom_count a.vars a.var_count keys) c.in_ok-add_heads.ensures.1 (search rules)
    (λ rows atoms vars h. grown_answers (heads_iff h c.all_orders-orders.ensures.1 c.fresh-start.ensures c.all_candidates-counts.ensures)
    (rw c.empty-set.ensures.0 at c.in_ok-add_heads.ensures.1.long) (rw (c.empty-set.ensures.0, c.empty-set.ensures.1) at c.in_ok-add_heads.ensures.0))
