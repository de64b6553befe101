-- `shapes::good_shapes` meets its contract: the records decide. Assumes nothing.
use Rattle.std.proofs.Common.{refl, rules}
use Rattle.meaning.specs.WellFormed.{good_shape}
use Rattle.names.proofs.Shape.{shapes_many, shape_at}
use Rattle.meaning.proofs.Lists.Ranges.{all_entries}
use Rattle.names.proofs.shapes.good_shapes.Goals as goal

pub returns : goal.returns
returns c = λ P g. all_entries (good_shape P) P.setting.shapes (shapes_many g) _ refl (λ i b q k. (search rules, λ x e. let d = shape_at g i x e in search rules)) c.all.ensures.ran
