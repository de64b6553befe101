-- Opens the reading of a pack's bytes and its checks, so that a proof can compute them. Assumes nothing.
use Rattle.meaning.specs.WellFormed.{agree, broken, dangling, duplicates, prefix_clash}
use Rattle.pack.specs.Checked.{check_within, first_refusal, first_true, on_pack, well_formed}
use Rattle.pack.specs.Contents.{bad_size, body_of, length_of, start_of, word}
use Rattle.pack.specs.Readers.{byte, byte_in, bytes, sized}
use Rattle.pack.specs.Records.{atom, atoms, constructor, dependency, head_of, multiplicity_of, name, prefix_byte, relation, row, rule, shape, target_of, term, tuple, value}
use Rattle.pack.specs.Unpack.{body, read_all, records, unpack_within}

unfoldable pub checking : Unit {0}
unfolding word length_of start_of body_of bad_size byte byte_in bytes sized prefix_byte value relation dependency name target_of multiplicity_of shape
    constructor tuple atom atoms term head_of rule row records read_all body unpack_within first_true on_pack check_within well_formed first_refusal duplicates prefix_clash
    dangling agree broken
checking = tt
