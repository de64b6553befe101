-- `dependencies::good_dependency` meets its contract. Assumes nothing.
use native.Mathlib.Omega.{arith}
use Rattle.names.proofs.Counted.{arity_small, relations_few}
use Rattle.names.proofs.Dependency.{both_in, left_out, none_named}
use Rattle.names.proofs.dependencies.good_dependency.Goals as goal

pub returns-then-setting-relation : goal.returns-then-setting-relation
returns-then-setting-relation c = λ P g x d. none_named g d c.if-setting-relation.true

pub overflow_add-arity : goal.overflow_add-arity
overflow_add-arity c = omega (arith, relations_few c.requires.0.given)

pub offset_bounds-setting-relation : goal.offset_bounds-setting-relation
offset_bounds-setting-relation c = omega (arith, relations_few c.requires.0.given)

pub bounds-setting-relation : goal.bounds-setting-relation
bounds-setting-relation c = let pre = c.requires in omega (arith, relations_few pre.0.given, pre.0.given.long)

pub in_columns-requires : goal.in_columns-requires
in_columns-requires c = arity_small c.requires.0.given c.if-setting-relation.false

pub returns-then-not-in_columns : goal.returns-then-not-in_columns
returns-then-not-in_columns c =
    λ P g x d. left_out g d c.if-setting-relation.false c.in_columns.ensures c.if-not-in_columns.true

pub in_columns-requires-2 : goal.in_columns-requires-2
in_columns-requires-2 c = arity_small c.requires.0.given c.if-setting-relation.false

pub returns : goal.returns
returns c =
    λ P g x d. both_in g d c.if-setting-relation.false c.in_columns.ensures c.if-not-in_columns.false c.in_columns-2.ensures
