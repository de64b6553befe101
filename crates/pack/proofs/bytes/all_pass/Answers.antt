-- `bytes::all_pass` meets its contract. Assumes nothing.
use Rattle.std.proofs.Common.{◌+◌, ◌∙◌, ap, sym}
use Rattle.std.proofs.Math.Seq.{slice}
use Rattle.std.specs.List.{list_all}
use Rattle.meaning.proofs.Lists.Library.{every_all}
use Rattle.pack.proofs.Runs.{any_passes, part_is}
use Rattle.pack.specs.Classes.{in_class}
use Rattle.pack.proofs.bytes.all_pass.Goals as goal

pub returns-in-Any : goal.returns-in-Any
returns-in-Any c = let args = c.args in
    rw c.in-Any.is (sym (any_passes (slice args.at (args.at + args.n) args.s.now)))

pub returns-in_default : goal.returns-in_default
returns-in_default c = let args = c.args in
    c.each_passes.ensures ∙ ap (list_all (in_class args.class)) (part_is args.at args.n args.s.now)
    ∙ sym (every_all (in_class args.class) (slice args.at (args.at + args.n) args.s.now))
