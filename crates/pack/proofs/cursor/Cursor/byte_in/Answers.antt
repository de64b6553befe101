-- `Cursor::byte_in` meets its contract. Assumes nothing.
use borrow.Author.Rules.{rules}
use mathlib.Core.Path.{◌≡◌, sym, ◌∙◌}
use Rattle.meaning.specs.Tests.{within}
use Rattle.pack.proofs.Reading.{byte_in_got, byte_in_not, byte_in_out}
use Rattle.pack.proofs.cursor.Cursor.byte_in.Goals as goal

pub returns-in_err-value : goal.returns-in_err-value
returns-in_err-value c = rw c.from_residual.ensures (byte_in_not _ _ c.in_err-value.ensures)

pub returns-then-not-contains : goal.returns-then-not-contains
returns-then-not-contains c = let w : c.contains.result ≡ within c.args.lo c.args.hi c.in_ok-value.value = search rules in
    byte_in_out _ _ c.in_ok-value.ensures (sym w ∙ c.if-not-contains.true)

pub returns : goal.returns
returns c = let w : c.contains.result ≡ within c.args.lo c.args.hi c.in_ok-value.value = search rules in
    byte_in_got _ _ c.in_ok-value.ensures (sym w ∙ c.if-not-contains.false)
