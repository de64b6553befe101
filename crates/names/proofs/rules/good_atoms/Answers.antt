-- `rules::good_atoms` meets its contract: the atoms decide. Assumes nothing.
use Rattle.std.proofs.Common.{refl, rules}
use Rattle.meaning.specs.WellFormed.{good_atom}
use Rattle.names.proofs.Atoms.{atom_good}
use Rattle.meaning.proofs.Lists.Ranges.{all_entries}
use Rattle.names.proofs.rules.good_atoms.Goals as goal

pub returns : goal.returns
returns c = λ P g as' a. all_entries (good_atom P) as' a.many _ refl (λ i b q k. (search rules, λ x e. atom_good a i x e P (search rules))) c.all.ensures.ran
