-- `compare::same_at` meets its contract. Assumes nothing.
use mathlib.Core.Path.{◌∙◌}
use Rattle.texts.proofs.Texts.{as_long, not_as_long, both_empty, differ_last}
use Rattle.texts.proofs.compare.same_at.Goals as goal

pub returns-then-n-m : goal.returns-then-n-m
returns-then-n-m c = not_as_long _ _ _ _ _ c.requires.0 c.requires.1 c.if-n-m.true

pub returns-then-n-eq0 : goal.returns-then-n-eq0
returns-then-n-eq0 c = let pre = c.requires in both_empty _ _ _ _ _ pre.0 pre.1 c.if-n-m.false c.if-n-eq0.true

pub returns-then-s-a : goal.returns-then-s-a
returns-then-s-a c =
    differ_last _ _ _ _ _ c.requires.0 c.requires.1 c.if-n-m.false c.if-n-eq0.false c.if-s-a.true

pub returns : goal.returns
returns c =
    c.begins_at.ensures ∙ as_long _ _ _ _ _ c.requires.0 c.requires.1 c.if-n-m.false
