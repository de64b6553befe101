-- `rule::atom_numbers` meets its contract. Assumes nothing.
use Rattle.records.proofs.Terms.{atom_made}
use Rattle.records.proofs.rule.atom_numbers.Goals as goal

pub returns : goal.returns
returns c = atom_made c.args.atom c.put_bytes.ensures
