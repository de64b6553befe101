-- `construct::from_rows` meets its contract. Assumes nothing.
use Rattle.std.proofs.Common.{sym, ◌∙◌}
use Rattle.construct.proofs.FromRows.{heads_of}
use Rattle.construct.specs.Steps.{kept}
use Rattle.construct.proofs.from_rows.Goals as goal

pub returns : goal.returns
returns c = λ P g.
    kept (sym (c.is_broken.ensures P g) ∙ c.if-is_broken.false)
    (c.from_heads.ensures P (heads_of g (c.in-Ok.ensures P g)))
