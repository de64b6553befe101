-- `heads_of` meets its contract: what the two copies are is held as matching supposes. Assumes nothing.
use Rattle.rule_heads.proofs.HeldRule.{atoms_small, rule_given, rule_held, variables_small}
use borrow.Author.Rules.{rules}
use Rattle.rule_heads.proofs.heads_of.Goals as goal

pub bytes_at-atoms-requires : goal.bytes_at-atoms-requires
bytes_at-atoms-requires c = (search rules, atoms_small c.requires.0.given)

pub bytes_at-vars-requires : goal.bytes_at-vars-requires
bytes_at-vars-requires c = (search rules, variables_small c.requires.0.given)

pub rule_heads-requires : goal.rule_heads-requires
rule_heads-requires c = let s = c.requires in
    (rw (c.bytes_at-atoms.ensures, c.bytes_at-vars.ensures) (rule_given s.0), s.1)

pub returns : goal.returns
returns c = λ P r g. c.rule_heads.ensures P.rows r.atoms _ (rw (c.bytes_at-atoms.ensures, c.bytes_at-vars.ensures) (rule_held g))
