-- `record::load_record` meets its contract: the numbers of each kind are put. Assumes nothing.
use native.Mathlib.Omega.{arith}
use Rattle.records.proofs.Keeping.{constructor_fits, name_fits, value_fits}
use Rattle.records.proofs.Keeping.{constructor_kept, dependency_kept, name_kept, relation_kept, row_kept, rule_kept, shape_kept, value_kept}
use Rattle.records.proofs.record.load_record.Goals as goal

pub returns-in_err-text-in-Value : goal.returns-in_err-text-in-Value
returns-in_err-text-in-Value c = rw (c.in-Value.is, c.from_residual.ensures) c.in_err-text-in-Value.ensures

pub returns-in_err-arity-in-Relation : goal.returns-in_err-arity-in-Relation
returns-in_err-arity-in-Relation c = rw (c.in-Relation.is, c.from_residual-in_err-arity-in-Relation.ensures) c.in_err-arity-in-Relation.ensures

pub returns-in_err-d-in-Dependency : goal.returns-in_err-d-in-Dependency
returns-in_err-d-in-Dependency c = rw (c.in-Dependency.is, c.from_residual-in_err-d-in-Dependency.ensures) c.in_err-d-in-Dependency.ensures

pub returns-in_err-name-in-Name : goal.returns-in_err-name-in-Name
returns-in_err-name-in-Name c = rw (c.in-Name.is, c.from_residual-in_err-name-in-Name.ensures) c.in_err-name-in-Name.ensures

pub returns-in_err-shape-in-Shape : goal.returns-in_err-shape-in-Shape
returns-in_err-shape-in-Shape c = rw (c.in-Shape.is, c.from_residual-in_err-shape-in-Shape.ensures) c.in_err-shape-in-Shape.ensures

pub returns-in_err-k-in-Constructor : goal.returns-in_err-k-in-Constructor
returns-in_err-k-in-Constructor c = rw (c.in-Constructor.is, c.from_residual-in_err-k-in-Constructor.ensures) c.in_err-k-in-Constructor.ensures

pub returns-in_err-rule-in-Rule : goal.returns-in_err-rule-in-Rule
returns-in_err-rule-in-Rule c = rw (c.in-Rule.is, c.from_residual-in_err-rule-in-Rule.ensures) c.in_err-rule-in-Rule.ensures

pub returns-in_err-row-in-Row : goal.returns-in_err-row-in-Row
returns-in_err-row-in-Row c = rw (c.in-Row.is, c.from_residual-in_err-row-in-Row.ensures) c.in_err-row-in-Row.ensures

pub place-requires : goal.place-requires
place-requires c = value_fits c.requires.0 c.in_ok-text-in-Value.ensures

pub overflow_cast-text : goal.overflow_cast-text
overflow_cast-text c = omega (arith, (value_fits c.requires.0 c.in_ok-text-in-Value.ensures).1)

pub place-requires-in-Name : goal.place-requires-in-Name
place-requires-in-Name c = name_fits c.requires.0 c.in_ok-name-in-Name.ensures

pub overflow_cast-name : goal.overflow_cast-name
overflow_cast-name c = omega (arith, (name_fits c.requires.0 c.in_ok-name-in-Name.ensures).1)

pub place-requires-in-Constructor : goal.place-requires-in-Constructor
place-requires-in-Constructor c = constructor_fits c.requires.0 c.in_ok-k-in-Constructor.ensures

pub overflow_cast-k-in-Constructor : goal.overflow_cast-k-in-Constructor
overflow_cast-k-in-Constructor c = omega (arith, (constructor_fits c.requires.0 c.in_ok-k-in-Constructor.ensures).1)

pub put_rule-requires : goal.put_rule-requires
put_rule-requires c = rw c.in-Rule.is at c.requires.1

pub returns-in_ok-text-in-Value : goal.returns-in_ok-text-in-Value
returns-in_ok-text-in-Value c = rw c.in-Value.is (value_kept c.in_ok-text-in-Value.ensures c.place.ensures c.put.ensures)

pub returns-in_ok-arity-in-Relation : goal.returns-in_ok-arity-in-Relation
returns-in_ok-arity-in-Relation c = rw c.in-Relation.is (relation_kept c.in_ok-arity-in-Relation.ensures c.put-in-Relation.ensures)

pub returns-in_ok-d-in-Dependency : goal.returns-in_ok-d-in-Dependency
returns-in_ok-d-in-Dependency c = rw c.in-Dependency.is (dependency_kept c.in_ok-d-in-Dependency.ensures c.put-in-Dependency.ensures)

pub returns-in_ok-name-in-Name : goal.returns-in_ok-name-in-Name
returns-in_ok-name-in-Name c = rw c.in-Name.is (name_kept c.in_ok-name-in-Name.ensures c.place-in-Name.ensures c.put-in-Name.ensures)

pub returns-in_ok-shape-in-Shape : goal.returns-in_ok-shape-in-Shape
returns-in_ok-shape-in-Shape c = rw c.in-Shape.is (shape_kept c.in_ok-shape-in-Shape.ensures c.put-in-Shape.ensures)

pub returns-in_ok-k-in-Constructor : goal.returns-in_ok-k-in-Constructor
returns-in_ok-k-in-Constructor c = rw c.in-Constructor.is (constructor_kept c.in_ok-k-in-Constructor.ensures c.place-in-Constructor.ensures c.put-in-Constructor.ensures)

pub returns-in_ok-rule-in-Rule : goal.returns-in_ok-rule-in-Rule
returns-in_ok-rule-in-Rule c = rw c.in-Rule.is (rule_kept c.in_ok-rule-in-Rule.ensures c.put_rule.ensures)

pub returns-in_ok-row-in-Row : goal.returns-in_ok-row-in-Row
returns-in_ok-row-in-Row c = rw c.in-Row.is (row_kept c.in_ok-row-in-Row.ensures c.row_numbers.ensures c.put-in-Row.ensures)
