-- `dependencies::good_dependencies` meets its contract: the records decide. Assumes nothing.
use Rattle.std.proofs.Common.{refl, rules}
use Rattle.meaning.specs.WellFormed.{good_dependency}
use Rattle.names.proofs.Dependency.{dependencies_many, dependency_at_lem}
use Rattle.meaning.proofs.Lists.Ranges.{all_entries}
use Rattle.names.proofs.dependencies.good_dependencies.Goals as goal

pub returns : goal.returns
returns c = λ P g. all_entries (good_dependency P) P.setting.dependencies (dependencies_many g) _ refl
    (λ i b q k. (search rules, λ x e. let d = dependency_at_lem g i x e in search rules)) c.all.ensures.ran
