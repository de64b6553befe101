-- `rules::good_rule` meets its contract. Assumes nothing.
use mathlib.Core.Bool.{not}
use mathlib.Core.Path.{◌∙◌, ap}
use native.Mathlib.Omega.{arith}
use Rattle.names.proofs.RuleNumbers.{atoms_at, head_at, variables_few}
use Rattle.names.proofs.Rule.{atoms_bad, head_bad, rule_good}
use borrow.Author.Rules.{rules}
use Rattle.meaning.proofs.Lists.Testing.{failed, passed}
use Rattle.names.proofs.rules.good_rule.Goals as goal

pub good_atoms-requires : goal.good_atoms-requires
good_atoms-requires c = (c.requires.0, record { list = _; given = atoms_at c.requires.1.given })

pub returns-then-not-good_atoms : goal.returns-then-not-good_atoms
returns-then-not-good_atoms c = λ P g r a. atoms_bad P r (failed (c.good_atoms.ensures P g r.atoms (atoms_at a)) (ap not c.if-not-good_atoms.true))

pub returns-then-not-head_named : goal.returns-then-not-head_named
returns-then-not-head_named c =
    λ P g r a. head_bad P r (passed (c.good_atoms.ensures P g r.atoms (atoms_at a)) (ap not c.if-not-good_atoms.false))
    (failed (c.head_named.ensures P g r.head (head_at a)) (ap not c.if-not-head_named.true))

pub overflow_add-end-2 : goal.overflow_add-end-2
overflow_add-end-2 c = let g = c.requires.1.given in
    omega (arith, variables_few g, g.room)

pub all_bound-requires : goal.all_bound-requires
all_bound-requires c = let g = c.requires.1.given in
    (record { list = _; given = atoms_at g }, search rules, omega (arith, variables_few g, g.room))

pub returns : goal.returns
returns c =
    λ P g r a. c.all_bound.ensures r.atoms (atoms_at a)
    ∙ rule_good P r (passed (c.good_atoms.ensures P g r.atoms (atoms_at a)) (ap not c.if-not-good_atoms.false)) a
    (passed (c.head_named.ensures P g r.head (head_at a)) (ap not c.if-not-head_named.false))
