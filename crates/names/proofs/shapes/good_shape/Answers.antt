-- `shapes::good_shape` meets its contract. Assumes nothing.
use borrow.Author.Tests.{eq-eqb, le-ltb, lt-ltb, ne_eqb}
use Rattle.names.proofs.Shape.{shape_good_lem}
use Rattle.names.proofs.shapes.good_shape.Goals as goal

pub returns-then-types-setting : goal.returns-then-types-setting
returns-then-types-setting c = λ P g x s. rw (le-ltb _ _ c.if-types-setting.true) at (shape_good_lem g s)

pub returns-then-setting-at : goal.returns-then-setting-at
returns-then-setting-at c = λ P g x s. rw (lt-ltb _ _ c.if-types-setting.false, le-ltb _ _ c.if-setting-at.true) at (shape_good_lem g s)

pub returns-then-target-eq-LITERAL : goal.returns-then-target-eq-LITERAL
returns-then-target-eq-LITERAL c = λ P g x s. rw (lt-ltb _ _ c.if-types-setting.false, lt-ltb _ _ c.if-setting-at.false, eq-eqb _ _ c.if-target-eq-LITERAL.true) at (shape_good_lem g s)

pub returns : goal.returns
returns c = λ P g x s. rw (lt-ltb _ _ c.if-types-setting.false, lt-ltb _ _ c.if-setting-at.false, ne_eqb _ _ c.if-target-eq-LITERAL.false) at (shape_good_lem g s)
