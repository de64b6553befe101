-- `contents::bad_size` meets its contract. Assumes nothing.
use borrow.Author.Rules.{rules}
use mathlib.Core.Path.{◌≡◌, sym, ◌∙◌}
use lib.ListN.{length}
use Rattle.meaning.specs.Limits.{contents_bytes, max_pack_bytes}
use Rattle.meaning.specs.Tests.{within}
use Rattle.pack.specs.Contents.{bad_size}
use Rattle.pack.proofs.contents.bad_size.Goals as goal

pub returns-then-not-contains : goal.returns-then-not-contains
unfolding bad_size
returns-then-not-contains c = let w : c.contains.result ≡ within contents_bytes max_pack_bytes (length c.args.s.now) = search rules in
    rw (sym w ∙ c.if-not-contains.true)

pub returns : goal.returns
unfolding bad_size
returns c = let w : c.contains.result ≡ within contents_bytes max_pack_bytes (length c.args.s.now) = search rules in
    rw (sym w ∙ c.if-not-contains.false, ← c.start.ensures)
